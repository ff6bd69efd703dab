-- The segments of the new file are exactly those that it names. Assumes nothing.
use Prim.Native.Nat.{ℕ, zero, suc, ◌<◌}
use mathlib.Core.Path.{◌≡◌, sym, ap, ◌∙◌}
use mathlib.Core.List.{List, [], ◌∷◌, ◌++◌, append_assoc, append-nil}
use native.Mathlib.Omega.{arith}
use native.Mathlib.Nat.{zero-add}
use lib.ListN.{length}
use lib.Dec.{eqb}
use borrow.Author.Tests.{ne_eqb}
use Rattle.format.specs.Scan.{Scan}
use Rattle.format.specs.File.{metadata_position, attachment_directory_position}
use Rattle.format.specs.Directory.{tile_count}
use Rattle.format.specs.Attachments.{attachment_count}
use Rattle.format.proofs.Below.{by_bool}
use Rattle.equivalent.specs.Same.{SameScans}
use Rattle.equivalent.proofs.Records.{tiles-same, attachments-same}
use Rattle.pack.specs.Pack.{Segment, packed, each, places_from}
use Rattle.pack.proofs.Joined.{each_same}
use Rattle.pack.proofs.Places.{Named, places-append}
use Rattle.repacked.specs.NewFile.{if_named, entry_block, entry_attachment, new_directory, new_block, new_metadata, new_attachment_directory, new_attachment}
use Rattle.repacked.specs.NewFile.{file_segment, directory_segment, block_segment, metadata_segment, attachment_directory_segment, attachment_segment}
use Rattle.repacked.specs.NewFile.{new_segments, repacked, repacked_scan}
use Rattle.repacked.specs.Claims.{new_places, named_segments, Positions}
use Rattle.repacked.proofs.Lengths.{Kept}
use Rattle.repacked.proofs.Places.{file-name, before_block, directory_if, before_directory, before_attachment}
use Rattle.repacked.proofs.Places.{before-directory, before-block, before-metadata, before-attachments, before-attachment, segments-are}
use Rattle.repacked.proofs.Sameness.{metadata-some, attachments-some}

-- ---- places of segments behind others: of one more, of one that need not be there, of one for each number

named-front : (xs ys : List Segment) → Named (xs ++ ys) → Named xs
named-front [] ys n = tt
named-front (x ∷ xs) ys n = (n.0, named-front xs ys n.1)

places-more : (xs : List Segment) (s : Segment) (p : ℕ) → Named xs → length (packed xs) ≡ p → places_from 0 (xs ++ (s ∷ [])) ≡ places_from 0 xs ++ (p ∷ [])
unfolding places_from
places-more xs s p n e = places-append 0 xs (s ∷ []) n ∙ rw (zero-add, e)

places-if : (xs : List Segment) (q : ℕ) (s : Segment) (p : ℕ) → Named xs → length (packed xs) ≡ p
    → places_from 0 (xs ++ if_named q (s ∷ []) []) ≡ places_from 0 xs ++ if_named q (p ∷ []) []
places-if xs q s p n e = by_bool (eqb q 0) (λ t. rw t (simp append-nil)) (λ t. rw t (places-more xs s p n e))

places-each : (xs : List Segment) (n : ℕ) (f : ℕ → Segment) (p : ℕ → ℕ) → Named (xs ++ each n f)
    → ((k : ℕ) → k < n → length (packed (xs ++ each k f)) ≡ p k) → places_from 0 (xs ++ each n f) ≡ places_from 0 xs ++ each n p
unfolding each
places-each xs zero f p a h = simp append-nil
places-each xs (suc n) f p a h =
    let b : Named (xs ++ each n f) = named-front (xs ++ each n f) (f n ∷ []) (rw append_assoc a) in
    rw (← append_assoc xs (each n f) (f n ∷ []))
    (places-more (xs ++ each n f) (f n) (p n) b (h n (omega arith))
    ∙ rw (places-each xs n f p b (λ k l. h k (omega arith))) (append_assoc (places_from 0 xs) (each n p) (p n ∷ [])))

-- ---- the places of the new file's segments

-- a position q that may be 0 for none, and the new one, r, of the place p
if-named : (q r p : ℕ) → r ≡ if_named q p 0 → 0 < p → if_named r (r ∷ []) [] ≡ if_named q (p ∷ []) []
if-named q r p e l = by_bool (eqb q 0) (λ t. rw (e, t)) (λ t. rw (e, t, ne_eqb p 0 (λ z. omega arith)))

module _ (bs : List ℕ) (h : Kept bs) (n : Named (new_segments bs)) where
  first_two : places_from 0 (file_segment bs ∷ directory_segment bs ∷ []) ≡ 0 ∷ new_directory ∷ []
  unfolding places_from
  first_two = places-more (file_segment bs ∷ []) (directory_segment bs) new_directory (file-name bs, tt) (before-directory bs h)

  places-are :
      new_places bs ≡
      0 ∷
      new_directory ∷
      (each (tile_count bs) (new_block bs) ++
      (if_named (metadata_position bs) (new_metadata bs ∷ []) [] ++
      (if_named (attachment_directory_position bs) (new_attachment_directory bs ∷ []) [] ++
      each (attachment_count bs) (new_attachment bs))))
  places-are =
      let n₀ : Named (before_attachment bs (attachment_count bs)) = rw (segments-are bs) at n in
      let n₁ = named-front (before_directory bs ++ directory_if bs) _ n₀ in
      let n₂ = named-front (before_directory bs) _ n₁ in
      let n₃ = named-front (before_block bs (tile_count bs)) _ n₂ in
      let blocks =
      places-each (file_segment bs ∷ directory_segment bs ∷ []) (tile_count bs) (block_segment bs) (new_block bs) n₃
      (λ k l. before-block bs h k (omega arith)) in
      let metadata = places-if (before_block bs (tile_count bs)) (metadata_position bs) (metadata_segment bs) (new_metadata bs) n₃ (before-metadata bs h) in
      let directory =
      places-if (before_directory bs) (attachment_directory_position bs) (attachment_directory_segment bs) (new_attachment_directory bs) n₂
      (before-attachments bs h) in
      let attachments =
      places-each (before_directory bs ++ directory_if bs) (attachment_count bs) (attachment_segment bs) (new_attachment bs) n₀
      (λ k l. before-attachment bs h k (omega arith)) in
      ap (places_from 0) (segments-are bs) ∙ attachments ∙ rw (directory, metadata, blocks, first_two) (simp append_assoc)

-- ---- those that it names

pub places-named : (sc : Scan) → Kept sc.file → Named (new_segments sc.file) → SameScans sc (repacked_scan sc) → Positions sc.file
    → new_places sc.file ≡ named_segments (repacked sc.file)
unfolding named_segments
places-named sc h n s p =
    let bs = sc.file in
    let new = repacked bs in
    places-are bs h n
    ∙ sym (rw (
      p.directory,
      ← tiles-same sc (repacked_scan sc) s,
      each_same (tile_count bs) (entry_block new) (new_block bs) p.block,
      if-named (metadata_position bs) (metadata_position new) (new_metadata bs) p.metadata (metadata-some bs),
      if-named (attachment_directory_position bs) (attachment_directory_position new) (new_attachment_directory bs) p.attachment_directory (attachments-some bs),
      ← attachments-same sc (repacked_scan sc) s,
      each_same (attachment_count bs) (entry_attachment new) (new_attachment bs) p.attachment,
    ))
