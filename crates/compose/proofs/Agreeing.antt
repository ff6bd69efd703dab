-- Refusal 23 over a selection, in the form that the loop over its table wants. Assumes nothing.
use Prim.Native.Nat.{ℕ, ◌+◌, ◌≤◌, ◌<◌}
use mathlib.Core.Path.{◌≡◌, refl, sym, ap, ◌∙◌}
use mathlib.Core.List.{List}
use mathlib.Core.Bool.{Bool, true, false, cond, not}
use native.Mathlib.Omega.{arith}
use lib.ListN.{get_or}
use lib.Dec.{eqb}
use borrow.Author.Tests.{ne_eqb, eq-eqb, eqb-false, not-true, not-false}
use Rattle.format.specs.Checks.{Accepted, Refused, refusal, first, rows_below}
use Rattle.format.specs.Entry.{pixel_type}
use Rattle.format.specs.Directory.{tile_count, entry_place}
use Rattle.format.proofs.Firsts.{rows-zero, rows_more, rows-stop}
use Rattle.subblocks.specs.Judged.{Listed}
use Rattle.judge.proofs.AcceptedFile.{tiled-file}
use Rattle.plane.specs.declared.Rect.{Rect}
use Rattle.tiles.specs.FileTile.{rectangle, meets}
use Rattle.question.specs.Question.{type_bad, agree_row, agree_rows}
use Rattle.compose.specs.Steps.{chosen_in, Chosen}
use Rattle.format.specs.declared.Fault.TheVariants as Fault

-- ---- the test at a place of the table: no entry stands at 0

abbrev pub bad_at : List ℕ → Rect → ℕ → ℕ → Bool
bad_at bs w t e = cond (not (eqb e 0)) (type_bad bs w t e) false

module _ (bs : List ℕ) (w : Rect) (t e : ℕ) where
  pub no-entry : e ≡ 0 → false ≡ bad_at bs w t e
  no-entry h = rw (eq-eqb e 0 h)

  pub apart-agrees : (e ≡ 0 → ⊥) → (a : Rect) → a ≡ rectangle bs e → (m : Bool) → m ≡ meets a w → not m ≡ true → false ≡ bad_at bs w t e
  unfolding type_bad
  apart-agrees h a i m j k = let f : m ≡ false = not-true m k in rw (ne_eqb e 0 h, ← i, ← j, f)

  pub meeting-type : (e ≡ 0 → ⊥) → (a : Rect) → a ≡ rectangle bs e → (m : Bool) → m ≡ meets a w → not m ≡ false → (p : ℕ) → p ≡ pixel_type bs e
      → not (eqb p t) ≡ bad_at bs w t e
  unfolding type_bad
  meeting-type h a i m j k p l = let f : m ≡ true = not-false m k in rw (ne_eqb e 0 h, ← i, ← j, f, l)

-- ---- the table's place k

module _ {bs table : List ℕ} (c : Chosen bs table) {n : ℕ} (e : n ≡ tile_count bs) where
  pub table-few : n ≤ 4096
  table-few = omega (arith, (tiled-file bs c.accepted).few)

  module _ (k : ℕ) (h : k < n) where
    pub table-place : (get_or table k 0 ≡ 0 → ⊥) → get_or table k 0 ≡ entry_place bs k
    table-place i = c.place k (omega arith) (rw (ne_eqb (get_or table k 0) 0 i))

    pub table-listed : (get_or table k 0 ≡ 0 → ⊥) → Listed bs (get_or table k 0)
    table-listed i = rw (table-place i) ((tiled-file bs c.accepted).listed k (omega arith))

    -- the test there is the row's
    row-test : (w : Rect) (t : ℕ) → bad_at bs w t (get_or table k 0) ≡ cond (chosen_in table k) (type_bad bs w t (entry_place bs k)) false
    row-test w t = go (eqb (get_or table k 0) 0) refl
      where
        go : (b : Bool) → eqb (get_or table k 0) 0 ≡ b
            → cond (not b) (type_bad bs w t (get_or table k 0)) false ≡ cond (not b) (type_bad bs w t (entry_place bs k)) false
        go true e = refl
        go false e = ap (type_bad bs w t) (table-place (eqb-false (get_or table k 0) 0 e))

-- ---- the loop: no entry below k is refused

pub record AgreedBelow (bs table : List ℕ) (w : Rect) (t n k : ℕ) : Type 0 where
  pub most : k ≤ n
  pub none : first (rows_below k (agree_row bs (chosen_in table) w t)) ≡ Accepted

pub agree-start : (bs table : List ℕ) (w : Rect) (t n : ℕ) → AgreedBelow bs table w t n 0
agree-start bs table w t n = record { most = omega arith; none = rows-zero _ }

module _ {bs table : List ℕ} (c : Chosen bs table) {n : ℕ} (e : n ≡ tile_count bs) {w : Rect} {t k : ℕ} (p : AgreedBelow bs table w t n k) where
  pub agree-next : (r : Bool) → k < n → r ≡ bad_at bs w t (get_or table k 0) → r ≡ false → AgreedBelow bs table w t n (k + 1)
  agree-next r h i f = record {
    most = omega arith;
    none = rows_more k (agree_row bs (chosen_in table) w t) p.none (rw (sym (row-test c e k h w t) ∙ (sym i ∙ f)));
  }

  pub agree-stop : (r : Bool) → k < n → r ≡ bad_at bs w t (get_or table k 0) → r ≡ true
      → Refused Fault.TileType (get_or table k 0) ≡ first (agree_rows bs (chosen_in table) w t)
  unfolding agree_rows
  agree-stop r h i f =
      ap (Refused Fault.TileType) (table-place c e k h (some (sym i ∙ f)))
      ∙ sym (rows-stop (tile_count bs) k (agree_row bs (chosen_in table) w t) (refusal Fault.TileType (entry_place bs k)) (omega arith) p.none
      (rw (sym (row-test c e k h w t) ∙ (sym i ∙ f))))
    where
      some : bad_at bs w t (get_or table k 0) ≡ true → get_or table k 0 ≡ 0 → ⊥
      some g z = let y : ◌≡◌ {A = ℕ} 0 1 = clash (rw z at g) in omega (arith, y)
        where
          clash : ◌≡◌ {A = Bool} false true → ◌≡◌ {A = ℕ} 0 1
          clash q = cc

  pub agree-end : n ≤ k → Accepted ≡ first (agree_rows bs (chosen_in table) w t)
  unfolding agree_rows
  agree-end h = let f : k ≡ tile_count bs = omega (arith, p.most) in sym (rw f at p.none)
