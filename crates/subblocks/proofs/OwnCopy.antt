-- The copy of the entry that a sub-block holds, where it agrees: the attachment's rows are those by the copy, so they are the same for every entry that agrees.
-- Assumes nothing.
use Prim.Native.Nat.{ℕ, ◌+◌, ◌*◌}
use mathlib.Core.Path.{◌≡◌, refl}
use mathlib.Core.List.{List}
use mathlib.Core.Bool.{false}
use native.Mathlib.Omega.{arith}
use borrow.Author.Tests.{not-false}
use Rattle.format.specs.Bytes.{u32_at}
use Rattle.format.specs.Entry.{dimension_count}
use Rattle.format.specs.SubBlock.{copy_bad, sub_block_bad, metadata_place, pixels_place, attachment_place}
use Rattle.format.specs.Masks.{has_chunks}
use Rattle.format.specs.Directory.{attachment_rows}
use Rattle.format.specs.declared.Release.{Release}
use Rattle.format.specs.declared.Release.TheVariants.{R102, R12}
use Rattle.format.proofs.Below.{none}
use Rattle.fields.proofs.Words.{range-bytes, same-u32}

module _ (ds : List ℕ) (e : ℕ) (bs : List ℕ) (q : ℕ) (agree : sub_block_bad ds e bs q ≡ false) where
  own-count : dimension_count ds e ≡ dimension_count bs (q + 48)
  unfolding sub_block_bad copy_bad dimension_count
  own-count =
      let at : q + 48 + 28 ≡ q + 76 = omega arith in
      let same = range-bytes (4 + 20 * u32_at ds (e + 28)) ds (e + 28) bs (q + 76) (not-false _ (none _ (none _ agree 1) 1)) in
      rw at (same-u32 ds (e + 28) bs (q + 76) (λ i h. same i (omega arith)))

  pub own-rows : (r : Release) → attachment_rows ds e bs q r ≡ attachment_rows bs (q + 48) bs q r
  unfolding attachment_rows has_chunks metadata_place pixels_place attachment_place
  own-rows R102 = refl
  own-rows R12 = rw own-count
