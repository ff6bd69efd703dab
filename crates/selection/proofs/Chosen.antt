-- What the table of a selection tells of an entry: 0 where it is not selected, and else its place. Assumes nothing.
use Prim.Native.Nat.{ℕ, zero, suc, ◌≤◌, ◌<◌}
use mathlib.Core.Path.{◌≡◌, refl}
use mathlib.Core.List.{List}
use mathlib.Core.Bool.{Bool, true, false, cond}
use native.Mathlib.Omega.{arith}
use lib.ListN.{get_or}
use lib.IntN.{ℤ}
use Rattle.format.specs.Entry.{next_entry}
use Rattle.format.specs.Directory.{entry_place}
use Rattle.selection.specs.Select.{selects}
use Rattle.selection.specs.Table.{Selection}

next-later : (bs : List ℕ) (e : ℕ) → e ≤ next_entry bs e
unfolding next_entry
next-later bs e = omega arith

-- no entry stands at 0
pub place-some : (bs : List ℕ) (k : ℕ) → 160 ≤ entry_place bs k
unfolding entry_place
place-some bs zero = omega arith
place-some bs (suc k) = omega (arith, place-some bs k, next-later bs (entry_place bs k))

cond-none : (b : Bool) (p : ℕ) → 0 < p → cond b p 0 ≡ 0 → b ≡ false
cond-none true p h e = absurd (omega arith)
cond-none false p h e = refl

cond-some : (b : Bool) (p : ℕ) → (cond b p 0 ≡ 0 → ⊥) → (b ≡ true) × (cond b p 0 ≡ p)
cond-some true p h = (refl, refl)
cond-some false p h = absurd (h refl)

module _ (bs : List ℕ) (starts : List ℤ) (any_scene : Bool) (before after : List ℕ) (r : ℕ) (w : Selection bs starts any_scene before after r)
    (k : ℕ) (h : k < r) where
  is-here : get_or after k 0 ≡ cond (selects bs starts any_scene (entry_place bs k)) (entry_place bs k) 0
  is-here = w.entry-is k (rw (← w.count-is) h)

  pub not_chosen : get_or after k 0 ≡ 0 → selects bs starts any_scene (entry_place bs k) ≡ false
  not_chosen e = cond-none (selects bs starts any_scene (entry_place bs k)) (entry_place bs k) (omega (arith, place-some bs k)) (rw is-here at e)

  pub is-chosen : (get_or after k 0 ≡ 0 → ⊥) → (selects bs starts any_scene (entry_place bs k) ≡ true) × (get_or after k 0 ≡ entry_place bs k)
  is-chosen n = rw is-here (cond-some (selects bs starts any_scene (entry_place bs k)) (entry_place bs k) (rw is-here at n))
