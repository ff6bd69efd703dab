-- Bytes compared without a branch: their differences joined by `|` are 0 just where all are equal. Assumes nothing.
use Prim.Native.Nat.{ℕ, zero, suc, ◌+◌, ◌≤◌}
use mathlib.Core.Path.{◌≡◌, refl, sym, ap, ◌∙◌}
use mathlib.Core.Bool.{Bool, true, false, ◌&&◌}
use native.Mathlib.Omega.{arith}
use native.Mathlib.Numerals.{add-one}
use lib.Bits.{bit_or, bit_xor, or_add_and, xor_add_and, and_le_l, and_le_r, xor_self}
use lib.Dec.{eqb}
use borrow.Author.Tests.{eq-eqb, ne_eqb, eqb-true, eqb-false}
use Rattle.format.specs.Bytes.{all_below}

-- a number that lies as the bits of a or b do, between each of them and their sum
pub record Between (a b w : ℕ) : Type 0 where
  pub left : a ≤ w
  pub right : b ≤ w
  pub sum : w ≤ a + b

pub or-between : (a b : ℕ) → Between a b (bit_or a b)
or-between a b =
    let s = or_add_and a b in
    record { left = omega (arith, s, and_le_r a b); right = omega (arith, s, and_le_l a b); sum = omega (arith, s) }

pub or-between' : (a b : ℕ) → Between a b (bit_or b a)
or-between' a b = let h = or-between b a in record { left = h.right; right = h.left; sum = omega (arith, h.sum) }

between-is-zero : (a b w : ℕ) → Between a b w → eqb w 0 ≡ (eqb a 0 && eqb b 0)
between-is-zero zero b w h = let e : w ≡ b = omega (arith, h.right, h.sum) in rw e
between-is-zero (suc a) b w h = rw (ne_eqb (suc a) 0 (λ e. omega arith)) (ne_eqb w 0 (λ e. omega (arith, h.left)))

xor-is-zero : (a b : ℕ) → eqb (bit_xor a b) 0 ≡ eqb a b
xor-is-zero a b = go (eqb a b) refl
  where
    go : (t : Bool) → eqb a b ≡ t → eqb (bit_xor a b) 0 ≡ t
    go true e = eq-eqb (bit_xor a b) 0 (ap (bit_xor a) (sym (eqb-true a b e)) ∙ xor_self a)
    go false e = ne_eqb (bit_xor a b) 0 (λ z. eqb-false a b e (omega (arith, xor_add_and a b, and_le_l a b, and_le_r a b)))

-- the differences of the first i bytes of x and y, joined: 0 just where there is none
pub record Joined (x y : ℕ → ℕ) (i off : ℕ) : Type 0 where
  pub same : eqb off 0 ≡ all_below i (λ k. eqb (x k) (y k))

pub none-joined : (x y : ℕ → ℕ) → Joined x y 0 0
unfolding all_below
none-joined x y = record { same = refl }

pub one-joined : (x y : ℕ → ℕ) (i off w : ℕ) → Joined x y i off → Between off (bit_xor (x i) (y i)) w → Joined x y (i + 1) w
unfolding all_below
one-joined x y i off w j h = record { same = rw (add-one, ← j.same, ← xor-is-zero (x i) (y i)) (between-is-zero off (bit_xor (x i) (y i)) w h) }
