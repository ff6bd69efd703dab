-- `directory::judge_tile` meets its contract.
use Prim.Native.Nat.{ℕ}
use mathlib.Core.Path.{◌≡◌}
use mathlib.Core.List.{List}
use mathlib.Core.Bool.{Bool, true, false, not}
use lib.Dec.{eqb}
use Rattle.format.proofs.Flags.{cond-true, is_true, is_false, not-is-true, not-is-false, eq_yes, eq_no}
use Rattle.format.specs.Segments.{walked_as}
use Rattle.format.specs.Entry.{pixel_type, pixel_bytes}
use Rattle.format.specs.Directory.{tile_rows}
use Rattle.std.specs.Prelude.{Option, Some, None}
use Rattle.segments.specs.Walk.{index_as}
use Rattle.segments.proofs.Naming.{some-named}
use Rattle.directory.proofs.Stages.{fixed_in}
use Rattle.directory.proofs.judge_tile.Goals as goal

-- a test of the type t that was read, whose bytes a pixel are b
module _ (bs : List ℕ) (e t b : ℕ) (i : t ≡ pixel_type bs e) (j : b ≡ pixel_bytes t) where
  type-none : b ≡ 0 → eqb (pixel_bytes (pixel_type bs e)) 0 ≡ true
  type-none h = rw (← i) (eq_yes b _ 0 j h)

  type-some : (b ≡ 0 → ⊥) → eqb (pixel_bytes (pixel_type bs e)) 0 ≡ false
  type-some h = rw (← i) (eq_no b _ 0 j h)

-- of the field a that was read as r
module _ (r a : ℕ) (i : r ≡ a) where
  other-than-0 : (r ≡ 0 → ⊥) → not (eqb a 0) ≡ true
  other-than-0 h = not-is-true _ (eq_no r a 0 i h)

  is-0 : r ≡ 0 → not (eqb a 0) ≡ false
  is-0 h = not-is-false _ (eq_yes r a 0 i h)

-- of the index n that was looked up
module _ (bs : List ℕ) (p : ℕ) (name : List ℕ) (n : Option ℕ) (i : n ≡ index_as bs p name) where
  named : (k : ℕ) → n ≡ Some k → not (walked_as bs p name) ≡ false
  named k h = rw (← some-named bs p name, ← i, h)

  unnamed : n ≡ None → not (walked_as bs p name) ≡ true
  unnamed h = rw (← some-named bs p name, ← i, h)

pub returns-then-dimensions_bad-clause-verdict : goal.returns-then-dimensions_bad-clause-verdict
unfolding tile_rows
returns-then-dimensions_bad-clause-verdict c = search (cond-true, is_true)

pub pixel_type-requires : goal.pixel_type-requires
pixel_type-requires c = search fixed_in

pub returns-then-pixel_bytes-eq0-clause-verdict : goal.returns-then-pixel_bytes-eq0-clause-verdict
unfolding tile_rows
returns-then-pixel_bytes-eq0-clause-verdict c =
    rw (
      type-none _ _ _ _ c.pixel_type.ensures.0 c.pixel_bytes.ensures c.if-pixel_bytes-eq0.true,
      is_false _ _ c.dimensions_bad.ensures c.if-dimensions_bad.false,
    )

pub compression-requires : goal.compression-requires
compression-requires c = search fixed_in

pub returns-then-compression-ne0-clause-verdict : goal.returns-then-compression-ne0-clause-verdict
unfolding tile_rows
returns-then-compression-ne0-clause-verdict c =
    rw (
      other-than-0 _ _ c.compression.ensures.0 c.if-compression-ne0.true,
      type-some _ _ _ _ c.pixel_type.ensures.0 c.pixel_bytes.ensures c.if-pixel_bytes-eq0.false,
      is_false _ _ c.dimensions_bad.ensures c.if-dimensions_bad.false,
    )

pub file_part-requires : goal.file_part-requires
file_part-requires c = search fixed_in

pub returns-then-file_part-ne0-clause-verdict : goal.returns-then-file_part-ne0-clause-verdict
unfolding tile_rows
returns-then-file_part-ne0-clause-verdict c =
    rw (
      other-than-0 _ _ c.file_part.ensures.0 c.if-file_part-ne0.true,
      is-0 _ _ c.compression.ensures.0 c.if-compression-ne0.false,
      type-some _ _ _ _ c.pixel_type.ensures.0 c.pixel_bytes.ensures c.if-pixel_bytes-eq0.false,
      is_false _ _ c.dimensions_bad.ensures c.if-dimensions_bad.false,
    )

pub returns-in-None-clause-verdict : goal.returns-in-None-clause-verdict
unfolding tile_rows
returns-in-None-clause-verdict c =
    rw (
      unnamed _ _ _ _ c.requires.named_value c.in-None.is,
      is-0 _ _ c.file_part.ensures.0 c.if-file_part-ne0.false,
      is-0 _ _ c.compression.ensures.0 c.if-compression-ne0.false,
      type-some _ _ _ _ c.pixel_type.ensures.0 c.pixel_bytes.ensures c.if-pixel_bytes-eq0.false,
      is_false _ _ c.dimensions_bad.ensures c.if-dimensions_bad.false,
    )

pub returns-in-Some-clause-verdict : goal.returns-in-Some-clause-verdict
unfolding tile_rows
returns-in-Some-clause-verdict c =
    rw (
      named _ _ _ _ c.requires.named_value _ c.in-Some.is,
      is-0 _ _ c.file_part.ensures.0 c.if-file_part-ne0.false,
      is-0 _ _ c.compression.ensures.0 c.if-compression-ne0.false,
      type-some _ _ _ _ c.pixel_type.ensures.0 c.pixel_bytes.ensures c.if-pixel_bytes-eq0.false,
      is_false _ _ c.dimensions_bad.ensures c.if-dimensions_bad.false,
    )
