-- The invariant of an ascending loop that looks for a number below n of which a test holds, and its steps. Assumes nothing.
use Prim.Native.Nat.{ℕ, ◌+◌, ◌≤◌, ◌<◌}
use mathlib.Core.Path.{◌≡◌, sym, ◌∙◌}
use mathlib.Core.Bool.{Bool, true, false}
use native.Mathlib.Omega.{arith}
use Rattle.format.specs.Bytes.{any_below, least_below}
use Rattle.format.proofs.Below.{any-zero, any-more, any_found, least-found, least-none}

-- the test holds of none of the numbers below k, which is at most n
pub record Passed (n : ℕ) (t : ℕ → Bool) (k : ℕ) : Type 0 where
  pub within : k ≤ n
  pub none : any_below k t ≡ false

pub passed_start : (n : ℕ) (t : ℕ → Bool) → Passed n t 0
passed_start n t = record { within = omega arith; none = any-zero t }

-- the loop's test compares k with m, which is n
module _ {n : ℕ} {t : ℕ → Bool} {k : ℕ} (p : Passed n t k) (m : ℕ) (c : m ≡ n) where
  pub passed-next : {r : Bool} → k < m → r ≡ t k → r ≡ false → Passed n t (k + 1)
  passed-next h e f = record { within = omega arith; none = any-more k t p.none (sym e ∙ f) }

  pub passed-found : {r : Bool} → k < m → r ≡ t k → r ≡ true → true ≡ any_below n t
  passed-found h e f = sym (any_found n k t (omega arith) (sym e ∙ f))

  pub passed-end : m ≤ k → false ≡ any_below n t
  passed-end h = let e : k ≡ n = omega arith in rw (← e) (sym p.none)

  pub passed-least : {r : Bool} → k < m → r ≡ t k → r ≡ true → k ≡ least_below n t
  passed-least h e f = sym (least-found n k t (omega arith) p.none (sym e ∙ f))

  pub passed-no-least : m ≤ k → m ≡ least_below n t
  passed-no-least h = let e : k ≡ n = omega arith in c ∙ sym (least-none n t (rw e at p.none))
