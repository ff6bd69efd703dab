-- Where the segments of the new file stand: each at the place that the sizes of those before it make. Assumes nothing.
use Prim.Native.Nat.{ℕ, zero, suc, ◌+◌, ◌^◌, ◌≤◌, ◌<◌}
use mathlib.Core.Path.{◌≡◌, refl, sym, ap, ◌∙◌}
use mathlib.Core.List.{List, [], ◌∷◌, ◌++◌, append_assoc, append-nil}
use native.Mathlib.Omega.{arith}
use lib.ListN.{length, length-append}
use lib.Dec.{eqb, ltb}
use borrow.Author.Tests.{ne_eqb, eqb-false}
use Rattle.format.specs.Bytes.{any_of}
use Rattle.format.specs.Names.{name_file, name_directory, name_sub_block, name_metadata, name_attachment, name_attachment_directory}
use Rattle.format.specs.File.{metadata_position, attachment_directory_position}
use Rattle.format.specs.Directory.{tile_count, entry_place}
use Rattle.format.specs.Attachments.{attachment_count}
use Rattle.format.proofs.Below.{by_bool, last_or}
use Rattle.pack.specs.Pack.{Segment, segment_size, segment_bytes, packed, each}
use Rattle.format.proofs.Parts.{part-all}
use Rattle.pack.proofs.Joined.{each-length}
use Rattle.pack.proofs.Packed.{segment-length, packed-append, packed-around, content-there}
use Rattle.repacked.specs.NewFile.{if_named, entry_block, entry_attachment, directory_size, sub_block_size}
use Rattle.repacked.specs.NewFile.{metadata_content_size, attachment_directory_size, attachment_content_size}
use Rattle.repacked.specs.NewFile.{new_directory, new_block, new_metadata, new_attachment_directory, new_attachment, new_end}
use Rattle.repacked.specs.NewFile.{file_segment, directory_segment, block_segment, metadata_segment, attachment_directory_segment, attachment_segment}
use Rattle.repacked.specs.NewFile.{annex_segments, new_segments, repacked}
use Rattle.repacked.specs.Refusals.{too_large}
use Rattle.repacked.proofs.Lengths.{Kept, file-content, directory-content, block-content}
use Rattle.repacked.proofs.Lengths.{metadata-content, attachments-content, attachment-content}
use Rattle.repacked.proofs.Written.{Stands}

-- ---- names of 16 bytes

pub file-name : (bs : List ℕ) → length (file_segment bs).name ≡ 16
unfolding file_segment name_file
file-name bs = refl

pub directory-name : (bs : List ℕ) → length (directory_segment bs).name ≡ 16
unfolding directory_segment name_directory
directory-name bs = refl

pub block-name : (bs : List ℕ) (k : ℕ) → length (block_segment bs k).name ≡ 16
unfolding block_segment name_sub_block
block-name bs k = refl

pub metadata-name : (bs : List ℕ) → length (metadata_segment bs).name ≡ 16
unfolding metadata_segment name_metadata
metadata-name bs = refl

pub attachments-name : (bs : List ℕ) → length (attachment_directory_segment bs).name ≡ 16
unfolding attachment_directory_segment name_attachment_directory
attachments-name bs = refl

pub attachment-name : (bs : List ℕ) (k : ℕ) → length (attachment_segment bs k).name ≡ 16
unfolding attachment_segment name_attachment
attachment-name bs k = refl

-- ---- segments one after the other

-- one more, with a content of n bytes
pub one_more : (xs : List Segment) (s : Segment) (n : ℕ) → length s.name ≡ 16 → length s.content ≡ n
    → length (packed (xs ++ (s ∷ []))) ≡ length (packed xs) + segment_size n
unfolding packed
one_more xs s n h e =
    rw (packed-append xs (s ∷ []), length-append (packed xs) (segment_bytes s ++ []), append-nil (segment_bytes s), segment-length s h, e)

-- those before number k of n, that one, and the rest
pub record Around {A : Type 0} (n : ℕ) (f : ℕ → A) (k : ℕ) : Type 0 where
  pub rest : List A
  pub whole : each n f ≡ each k f ++ (f k ∷ rest)

pub each-around : {A : Type 0} (n : ℕ) (f : ℕ → A) (k : ℕ) → k < n → Around n f k
unfolding each
each-around zero f k h = absurd (omega arith)
each-around (suc n) f k h =
    last_or (Around (suc n) f) h (record { rest = []; whole = refl })
    (λ l. let r = each-around n f k l in record { rest = r.rest ++ (f n ∷ []); whole = rw r.whole (append_assoc (each k f) (f k ∷ r.rest) (f n ∷ [])) })

-- ---- the segments before sub-block k, before the attachment directory, before the first attachment, before attachment k

abbrev pub before_block : List ℕ → ℕ → List Segment
before_block bs k = file_segment bs ∷ directory_segment bs ∷ each k (block_segment bs)

abbrev pub metadata_if : List ℕ → List Segment
metadata_if bs = if_named (metadata_position bs) (metadata_segment bs ∷ []) []

abbrev pub directory_if : List ℕ → List Segment
directory_if bs = if_named (attachment_directory_position bs) (attachment_directory_segment bs ∷ []) []

abbrev pub before_directory : List ℕ → List Segment
before_directory bs = before_block bs (tile_count bs) ++ metadata_if bs

abbrev pub before_attachment : List ℕ → ℕ → List Segment
before_attachment bs k = (before_directory bs ++ directory_if bs) ++ each k (attachment_segment bs)

-- a segment that need not be there
optional : (xs : List Segment) (q : ℕ) (s : Segment) (n : ℕ) → length s.name ≡ 16 → ((q ≡ 0 → ⊥) → length s.content ≡ n)
    → length (packed (xs ++ if_named q (s ∷ []) [])) ≡ length (packed xs) + if_named q (segment_size n) 0
optional xs q s n h e =
    by_bool (eqb q 0)
    (λ t. rw (t, append-nil xs) (omega arith))
    (λ t. rw t (one_more xs s n h (e (eqb-false q 0 t))))

module _ (bs : List ℕ) (h : Kept bs) where
  pub before-directory : length (packed (file_segment bs ∷ [])) ≡ new_directory
  unfolding packed new_directory
  before-directory = rw (append-nil, segment-length (file_segment bs) (file-name bs), file-content bs h)

  pub before-block : (k : ℕ) → k ≤ tile_count bs → length (packed (before_block bs k)) ≡ new_block bs k
  unfolding each new_block
  before-block zero l =
      one_more (file_segment bs ∷ []) (directory_segment bs) (directory_size bs) (directory-name bs) (directory-content bs h)
      ∙ ap (λ n. n + segment_size (directory_size bs)) before-directory
  before-block (suc k) l =
      let n = sub_block_size bs (entry_place bs k) (entry_block bs k) in
      one_more (before_block bs k) (block_segment bs k) n (block-name bs k) (block-content bs h k (omega arith))
      ∙ ap (λ p. p + segment_size n) (before-block k (omega arith))

  pub before-metadata : length (packed (before_block bs (tile_count bs))) ≡ new_metadata bs
  unfolding new_metadata
  before-metadata = before-block (tile_count bs) (omega arith)

  pub before-attachments : length (packed (before_directory bs)) ≡ new_attachment_directory bs
  unfolding new_attachment_directory
  before-attachments =
      optional (before_block bs (tile_count bs)) (metadata_position bs) (metadata_segment bs) (metadata_content_size bs (metadata_position bs))
      (metadata-name bs) (metadata-content bs h)
      ∙ rw before-metadata refl

  pub before-attachment : (k : ℕ) → k ≤ attachment_count bs → length (packed (before_attachment bs k)) ≡ new_attachment bs k
  unfolding each new_attachment
  before-attachment zero l =
      rw (append-nil)
      (optional (before_directory bs) (attachment_directory_position bs) (attachment_directory_segment bs) (attachment_directory_size (attachment_count bs))
      (attachments-name bs) (attachments-content bs h)
      ∙ rw before-attachments refl)
  before-attachment (suc k) l =
      let n = attachment_content_size bs (entry_attachment bs k) in
      rw (← append_assoc)
      (one_more (before_attachment bs k) (attachment_segment bs k) n (attachment-name bs k) (attachment-content bs h k (omega arith))
      ∙ rw (before-attachment k (omega arith)) refl)

-- ---- all segments: those before the first attachment, and the attachments

pub segments-are : (bs : List ℕ) → new_segments bs ≡ before_attachment bs (attachment_count bs)
unfolding new_segments annex_segments
segments-are bs =
    let xs = before_block bs (tile_count bs) in
    let rest = each (attachment_count bs) (attachment_segment bs) in
    sym (append_assoc xs (metadata_if bs) (directory_if bs ++ rest)) ∙ sym (append_assoc (xs ++ metadata_if bs) (directory_if bs) rest)

-- how long the new file is
pub new-length : (bs : List ℕ) → Kept bs → length (repacked bs) ≡ new_end bs
unfolding repacked new_end
new-length bs h = ap (λ l. length (packed l)) (segments-are bs) ∙ before-attachment bs h (attachment_count bs) (omega arith)

-- how many segments it has
if-one : (q : ℕ) (s : Segment) → length (if_named q (s ∷ []) []) ≡ if_named q 1 0
if-one q s = by_bool (eqb q 0) (λ e. rw e) (λ e. rw e)

pub new-count : (bs : List ℕ)
    → length (new_segments bs) ≡ 2 + tile_count bs + if_named (metadata_position bs) 1 0 + if_named (attachment_directory_position bs) 1 0 + attachment_count bs
unfolding new_segments annex_segments
new-count bs =
    simp (length-append, each-length, if-one (metadata_position bs) (metadata_segment bs), if-one (attachment_directory_position bs) (attachment_directory_segment bs))
    (omega arith)

-- refusal 36, by both numbers
pub too-large-is : (bs : List ℕ) → Kept bs
    → too_large bs ≡ any_of (ltb 8192 (length (new_segments bs)) ∷ ltb (2 ^ 40) (new_end bs) ∷ [])
unfolding too_large
too-large-is bs h = rw (new-length bs h)

-- ---- each segment, at its place

-- the segment s of the new file stands at p
pub record Placed (bs : List ℕ) (s : Segment) (p : ℕ) : Type 0 where
  pub before : List Segment
  pub behind : List Segment
  pub whole : new_segments bs ≡ before ++ (s ∷ behind)
  pub place : length (packed before) ≡ p
  pub name : length s.name ≡ 16

module _ (bs : List ℕ) (h : Kept bs) where
  pub file-placed : Placed bs (file_segment bs) 0
  unfolding new_segments packed
  file-placed = record { before = []; behind = _; whole = refl; place = refl; name = file-name bs }

  pub directory-placed : Placed bs (directory_segment bs) new_directory
  unfolding new_segments
  directory-placed = record { before = file_segment bs ∷ []; behind = _; whole = refl; place = before-directory bs h; name = directory-name bs }

  pub block-placed : (k : ℕ) → k < tile_count bs → Placed bs (block_segment bs k) (new_block bs k)
  unfolding new_segments
  block-placed k l =
      let r = each-around (tile_count bs) (block_segment bs) k l in
      record {
        before = before_block bs k;
        behind = r.rest ++ annex_segments bs;
        whole = rw r.whole (append_assoc (before_block bs k) (block_segment bs k ∷ r.rest) (annex_segments bs));
        place = before-block bs h k (omega arith);
        name = block-name bs k;
      }

  pub metadata-placed : (metadata_position bs ≡ 0 → ⊥) → Placed bs (metadata_segment bs) (new_metadata bs)
  unfolding new_segments annex_segments
  metadata-placed some =
      record {
        before = before_block bs (tile_count bs);
        behind = directory_if bs ++ each (attachment_count bs) (attachment_segment bs);
        whole = rw (ne_eqb (metadata_position bs) 0 some);
        place = before-metadata bs h;
        name = metadata-name bs;
      }

  pub attachments-placed : (attachment_directory_position bs ≡ 0 → ⊥) → Placed bs (attachment_directory_segment bs) (new_attachment_directory bs)
  attachments-placed some =
      record {
        before = before_directory bs;
        behind = each (attachment_count bs) (attachment_segment bs);
        whole =
            segments-are bs ∙ append_assoc (before_directory bs) (directory_if bs) (each (attachment_count bs) (attachment_segment bs))
            ∙ rw (ne_eqb (attachment_directory_position bs) 0 some) refl;
        place = before-attachments bs h;
        name = attachments-name bs;
      }

  pub attachment-placed : (k : ℕ) → k < attachment_count bs → Placed bs (attachment_segment bs k) (new_attachment bs k)
  attachment-placed k l =
      let r = each-around (attachment_count bs) (attachment_segment bs) k l in
      record {
        before = before_attachment bs k;
        behind = r.rest;
        whole =
            segments-are bs
            ∙ ap (λ x. (before_directory bs ++ directory_if bs) ++ x) r.whole
            ∙ sym (append_assoc (before_directory bs ++ directory_if bs) (each k (attachment_segment bs)) (attachment_segment bs k ∷ r.rest));
        place = before-attachment bs h k (omega arith);
        name = attachment-name bs k;
      }

-- ---- reading it

module _ (bs : List ℕ) (s : Segment) (p : ℕ) (at : Placed bs s p) where
  -- it lies in the new file
  pub placed-within : p + segment_size (length s.content) ≤ length (repacked bs)
  unfolding repacked
  placed-within =
      let l = ap length (packed-around at.before s at.behind) in
      let a = length-append (packed at.before) (segment_bytes s ++ packed at.behind) in
      let b = length-append (segment_bytes s) (packed at.behind) in
      rw at.whole (omega (arith, at.place, segment-length s at.name))

  pub placed-content : Stands (repacked bs) (p + 32) s.content
  unfolding repacked
  placed-content =
      let e : p + 32 ≡ length (packed at.before) + 32 + 0 = omega (arith, at.place) in
      rw (at.whole, e)
      (content-there at.before s at.behind at.name 0 (length s.content) (omega arith) ∙ part-all s.content (length s.content) refl)
