-- Laws of rows in a lent array: one number more of a row, one row more, one group more. Assumes nothing.
use Prim.Native.Nat.{ℕ, zero, suc, ◌+◌, ◌*◌, ◌≤◌, ◌<◌}
use mathlib.Core.Path.{◌≡◌, refl, ◌∙◌}
use mathlib.Core.List.{List}
use mathlib.Core.Logic.{⊎_elim}
use native.Mathlib.Nat.{eq-or-lt_of_le, mul-le-mul_left}
use native.Mathlib.Numerals.{add-one}
use native.Mathlib.Omega.{arith}
use lib.ListN.{length, get_or, set, length-set}
use lib.Seq.{get_or-set_same, get_or-set_other}
use Rattle.format.specs.Entry.{dimension_count}
use Rattle.format.specs.Directory.{entry_place}
use Rattle.tables.specs.Rows.{Stretch, Rows}
use Rattle.tables.specs.Tables.{dimensions_below, Groups}

-- a number is m, or below it
below_or : (P : ℕ → Type 0) (m k : ℕ) → k < m + 1 → (k < m → P k) → P m → P k
below_or P m k h f g = ⊎_elim (λ (e : k ≡ m). rw e g) f (eq-or-lt_of_le (omega arith))

-- ---- one number more of a row

module _ {A : Type 0} (none : A) (at : ℕ) (row before : List A) where
  pub stretch-none : Stretch none at 0 row before before
  stretch-none = record { size_is = refl; there = λ i h. absurd (omega arith); below = λ x h. refl; past = λ x h. refl }

  pub stretch-more : (i : ℕ) (after : List A) → Stretch none at i row before after → at + i < length after
      → Stretch none at (i + 1) row before (set after (at + i) (get_or row i none))
  stretch-more i after s l = record {
    size_is = length-set after _ _ ∙ s.size_is;
    there = λ k h.
        below_or (λ k. get_or (set after (at + i) (get_or row i none)) (at + k) none ≡ get_or row k none) i k h
        (λ b. get_or-set_other after (at + i) (at + k) _ none (λ z. omega arith) ∙ s.there k b)
        (get_or-set_same after (at + i) _ none l);
    below = λ x h. get_or-set_other after (at + i) x _ none (λ z. omega arith) ∙ s.below x h;
    past = λ x h. get_or-set_other after (at + i) x _ none (λ z. omega arith) ∙ s.past x (omega arith);
  }

-- ---- rows of w numbers

-- a number of an earlier row stands before the later row
before-row : (w k n i : ℕ) → k < n → i < w → w * k + i < w * n
before-row w k n i h l = let m : w * (k + 1) ≤ w * n = mul-le-mul_left w (omega arith) in omega arith

module _ {A : Type 0} (none : A) (w r : ℕ) (row : ℕ → List A) (before : List A) where
  pub rows_none : Rows none w r 0 row before before
  rows_none = record { size_is = refl; row_is = λ k i h. absurd (omega arith); below = λ x h. refl; past = λ x h. refl }

  pub rows_more : (m : ℕ) (mid after : List A) → Rows none w r m row before mid → Stretch none (w * (r + m)) w (row m) mid after
      → Rows none w r (m + 1) row before after
  rows_more m mid after s t = record {
    size_is = t.size_is ∙ s.size_is;
    row_is = λ k i h l.
        below_or (λ k. get_or after (w * (r + k) + i) none ≡ get_or (row k) i none) m k h
        (λ b. t.below (w * (r + k) + i) (before-row w (r + k) (r + m) i (omega arith) l) ∙ s.row_is k i b l)
        (t.there i l);
    below = λ x h. let l : w * r ≤ w * (r + m) = mul-le-mul_left w (omega arith) in t.below x (omega arith) ∙ s.below x h;
    past = λ x h. t.past x (omega arith) ∙ s.past x (omega arith);
  }

-- ---- groups of rows: the dimensions of the tiles below n

module _ (bs : List ℕ) where
  pub below_next : (n : ℕ) → dimensions_below bs (n + 1) ≡ dimensions_below bs n + dimension_count bs (entry_place bs n)
  unfolding dimensions_below
  below_next n = rw (add-one n)

  pub below-rises : (k n : ℕ) → k ≤ n → dimensions_below bs k ≤ dimensions_below bs n
  unfolding dimensions_below
  below-rises k zero h = let e : k ≡ 0 = omega arith in rw e (omega arith)
  below-rises k (suc n) h = ⊎_elim (λ (e : k ≡ suc n). rw e (omega arith)) (λ (l : k < suc n). omega (arith, below-rises k n (omega arith))) (eq-or-lt_of_le h)

  -- row j of tile k comes before those of tile n
  before-group : (k n j : ℕ) → k < n → j < dimension_count bs (entry_place bs k) → dimensions_below bs k + j < dimensions_below bs n
  before-group k n j h l = omega (arith, below_next k, below-rises (k + 1) n (omega arith))

  module _ {A : Type 0} (none : A) (w : ℕ) (row : ℕ → ℕ → List A) (before : List A) where
    pub groups_none : Groups none w bs 0 row before before
    groups_none = record { size_is = refl; row_is = λ k j i h. absurd (omega arith); past = λ x h. refl }

    pub groups-more : (n : ℕ) (mid after : List A) → Groups none w bs n row before mid
        → Rows none w (dimensions_below bs n) (dimension_count bs (entry_place bs n)) (row n) mid after
        → Groups none w bs (n + 1) row before after
    groups-more n mid after s t = record {
      size_is = t.size_is ∙ s.size_is;
      row_is = λ k j i h l q.
          ⊎_elim
          (λ (e : k ≡ n). rw e (t.row_is j i (rw e at l) q))
          (λ (b : k < n). t.below _ (before-row w (dimensions_below bs k + j) (dimensions_below bs n) i (before-group k n j b l) q) ∙ s.row_is k j i b l q)
          (eq-or-lt_of_le (omega arith));
      past = λ x h.
          let f : w * (dimensions_below bs n + dimension_count bs (entry_place bs n)) ≤ x = rw (below_next n) at h in
          let l : w * dimensions_below bs n ≤ w * (dimensions_below bs n + dimension_count bs (entry_place bs n)) = mul-le-mul_left w (omega arith) in
          t.past x f ∙ s.past x (omega arith);
    }
