-- The rows of release 1.02 are those of 1.2 but for the chunks' own, 17 and 18. Assumes nothing.
use Prim.Native.Nat.{ℕ, zero, suc}
use mathlib.Core.Path.{◌≡◌, refl, ap}
use mathlib.Core.List.{List, [], ◌∷◌, ◌++◌}
use mathlib.Core.Bool.{Bool, true, false, cond, ◌||◌}
use native.Mathlib.Omega.{arith}
use lib.Dec.{eqb, ltb}
use lib.ListN.{length}
use borrow.Author.Tests.{ne_eqb, eqb-false}
use Rattle.format.specs.Checks.{Verdict, Refused, Check, number, row, first, rows_below}
use Rattle.format.specs.Scan.{scan_of}
use Rattle.format.specs.Segments.{length_bad, next_segment, segment_rows, walk_rows, segments_rows}
use Rattle.format.specs.File.{metadata_position, attachment_directory_position, directory_position, file_rows}
use Rattle.format.specs.Entry.{file_position}
use Rattle.format.specs.SubBlock.{attachment_size, attachment_place}
use Rattle.format.specs.Masks.{chunk_rows, chunks_rows, has_chunks}
use Rattle.format.specs.Directory.{tile_count, entry_place, directory_bad, head_rows, tile_rows, sub_block_rows, attachment_rows, entry_rows, directory_rows}
use Rattle.format.specs.Attachments.{metadata_rows, attachment_directory_bad, attachment_entry_count}
use Rattle.format.specs.Attachments.{attachment_entry_rows, attachment_directory_rows, attachments_rows}
use Rattle.format.specs.Rules.{checks}
use Rattle.format.specs.Releases.{NoChunkRefused, without_chunks}
use Rattle.format.specs.declared.Release.TheVariants.{R102, R12}
use Rattle.format.proofs.Below.{by_bool, or-none}
use Rattle.format.specs.declared.Fault.TheVariants as Fault

-- a row of 17 or 18
abbrev of_chunk : Check → Bool
of_chunk c = eqb (number c.fault) 17 || eqb (number c.fault) 18

-- rows of which none is one
abbrev pub Chunkless : List Check → Type 0
Chunkless cs = without_chunks cs ≡ cs

-- ---- lists that are made of others

without-append : (a b : List Check) → without_chunks (a ++ b) ≡ without_chunks a ++ without_chunks b
unfolding without_chunks
without-append [] b = refl
without-append (c ∷ cs) b = by_bool (of_chunk c) (λ e. rw e (without-append cs b)) (λ e. rw e (ap (λ x. c ∷ x) (without-append cs b)))

pub without-both : (a b : List Check) {a' b' : List Check} → without_chunks a ≡ a' → without_chunks b ≡ b' → without_chunks (a ++ b) ≡ a' ++ b'
without-both a b e f = rw (without-append a b, e, f)

pub without-below : (n : ℕ) (f g : ℕ → List Check) → ((k : ℕ) → without_chunks (f k) ≡ g k) → without_chunks (rows_below n f) ≡ rows_below n g
unfolding rows_below without_chunks
without-below zero f g h = refl
without-below (suc n) f g h = without-both (rows_below n f) (f n) (without-below n f g h) (h n)

chunkless-if : (t : Bool) (a b : List Check) → Chunkless a → Chunkless b → Chunkless (cond t a b)
chunkless-if true a b e f = e
chunkless-if false a b e f = f

-- ---- lists that have no chunk's row

module _ (bs : List ℕ) where
  walk-chunkless : (n p : ℕ) → Chunkless (walk_rows n bs p)
  unfolding walk_rows segment_rows without_chunks
  walk-chunkless zero p = refl
  walk-chunkless (suc n) p =
      chunkless-if (ltb p (length bs)) (segment_rows bs p ++ walk_rows n bs (next_segment bs p)) []
      (without-both (segment_rows bs p) (walk_rows n bs (next_segment bs p)) refl (walk-chunkless n _)) refl

  segments-chunkless : Chunkless (segments_rows bs)
  unfolding segments_rows without_chunks
  segments-chunkless = ap (λ x. row Fault.Length 0 (length_bad bs) ∷ x) (walk-chunkless 8192 0)

  file-chunkless : Chunkless (file_rows bs)
  unfolding file_rows without_chunks
  file-chunkless = refl

  metadata-chunkless : Chunkless (metadata_rows bs)
  unfolding metadata_rows without_chunks
  metadata-chunkless = chunkless-if (eqb (metadata_position bs) 0) [] _ refl refl

  entries-chunkless : (t : ℕ) → Chunkless (attachment_directory_rows bs t)
  unfolding attachment_directory_rows attachment_entry_rows without_chunks
  entries-chunkless t = ap (λ x. row Fault.Directory t (attachment_directory_bad bs t) ∷ x) (without-below (attachment_entry_count bs t) _ _ (λ k. refl))

  attachments-chunkless : Chunkless (attachments_rows bs)
  unfolding attachments_rows without_chunks
  attachments-chunkless = chunkless-if (eqb (attachment_directory_position bs) 0) [] _ refl (entries-chunkless (attachment_directory_position bs))

-- ---- the sub-block directory

-- the chunks have no other
without-chunks : (n : ℕ) (bs : List ℕ) (end : ℕ) (seen : Bool) (c : ℕ) → without_chunks (chunks_rows n bs end seen c) ≡ []
unfolding chunks_rows chunk_rows without_chunks
without-chunks zero bs end seen c = refl
without-chunks (suc n) bs end seen c =
    by_bool (ltb c end) (λ e. rw e (without-chunks n bs end _ _)) (λ e. rw e)

without-attachment : (ds : List ℕ) (e : ℕ) (bs : List ℕ) (q : ℕ) → without_chunks (attachment_rows ds e bs q R12) ≡ attachment_rows ds e bs q R102
unfolding attachment_rows has_chunks without_chunks
without-attachment ds e bs q =
    by_bool (has_chunks ds e bs q R12) (λ h. rw h (without-chunks (attachment_size bs q) bs _ false (attachment_place ds e bs q))) (λ h. rw h)

module _ (bs : List ℕ) where
  without-entry : (d e : ℕ) → without_chunks (entry_rows (scan_of bs R12) d e) ≡ entry_rows (scan_of bs R102) d e
  unfolding entry_rows head_rows tile_rows sub_block_rows without_chunks
  without-entry d e = rw (without-attachment bs e bs (file_position bs e))

  without-directory : without_chunks (directory_rows (scan_of bs R12)) ≡ directory_rows (scan_of bs R102)
  unfolding directory_rows without_chunks
  without-directory =
      ap (λ x. row Fault.Directory (directory_position bs) (directory_bad bs (directory_position bs)) ∷ x)
      (without-below (tile_count bs) _ _ (λ k. without-entry (directory_position bs) (entry_place bs k)))

  -- ---- all of them

  pub without-checks : without_chunks (checks (scan_of bs R12)) ≡ checks (scan_of bs R102)
  unfolding checks
  without-checks =
      simp (without-append, segments-chunkless bs, file-chunkless bs, without-directory, metadata-chunkless bs, attachments-chunkless bs)

-- ---- the first of the rows that is given

module _ (c : Check) where
  abbrev refusal : Verdict
  refusal = Refused c.fault c.place

  not-of : of_chunk c ≡ false → NoChunkRefused refusal
  not-of e = let both = or-none _ _ e in record { not_17 = eqb-false _ _ both.0; not_18 = eqb-false _ _ both.1 }

  of_none : NoChunkRefused refusal → of_chunk c ≡ false
  of_none n = rw (ne_eqb _ _ n.not_17, ne_eqb _ _ n.not_18)

-- without the chunks' rows it is none of them
pub without-never : (cs : List Check) → NoChunkRefused (first (without_chunks cs))
unfolding without_chunks
without-never [] = record { not_17 = λ e. absurd (omega arith); not_18 = λ e. absurd (omega arith) }
without-never (c ∷ cs) =
    by_bool (of_chunk c)
    (λ e. rw e (without-never cs))
    (λ e. rw e (by_bool c.given (λ g. rw g (not-of c e)) (λ g. rw g (without-never cs))))

-- and the same as with them, where that is none of them
pub without-first : (cs : List Check) → NoChunkRefused (first cs) → first (without_chunks cs) ≡ first cs
unfolding without_chunks
without-first [] n = refl
without-first (c ∷ cs) n =
    by_bool c.given
    (λ g. rw (of_none c (rw g at n), g))
    (λ g. let rest = without-first cs (rw g at n) in rw g (by_bool (of_chunk c) (λ e. rw e rest) (λ e. rw e rest)))
