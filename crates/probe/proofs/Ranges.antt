-- Two lists of one length are equal exactly where their whole ranges are. Assumes nothing.
use Prim.Native.Nat.{ℕ, ◌+◌}
use mathlib.Core.Path.{◌≡◌, sym, ap}
use mathlib.Core.List.{List}
use mathlib.Core.Bool.{Bool, false, true≢false}
use native.Mathlib.Nat.{zero-add}
use lib.ListN.{length, get_or}
use lib.Seq.{ext_get_or}
use lib.Dec.{eqb}
use borrow.Author.Tests.{eq-eqb}
use Rattle.format.specs.Bytes.{same_range}
use Rattle.format.proofs.Below.{all-intro}
use Rattle.fields.proofs.Words.{range-bytes}
use Rattle.probe.specs.Equal.{Tells}

pub other-lengths : (xs ys : List ℕ) → (length xs ≡ length ys → ⊥) → Tells xs ys false
other-lengths xs ys n = record { only = λ e. absurd (true≢false (sym e)); always = λ e. absurd (n (ap length e)) }

-- the test of one place
abbrev same : List ℕ → List ℕ → ℕ → Bool
same xs ys i = eqb (get_or xs (0 + i) 0) (get_or ys (0 + i) 0)

pub whole-ranges : (xs ys : List ℕ) → length xs ≡ length ys → Tells xs ys (same_range (length xs) xs 0 ys 0)
unfolding same_range
whole-ranges xs ys l =
    record {
      only = λ e. ext_get_or 0 xs ys l (λ i h. simp zero-add at (range-bytes (length xs) xs 0 ys 0 e i h));
      always = λ e. all-intro (length xs) (same xs ys) (λ i h. eq-eqb _ _ (ap (λ (zs : List ℕ). get_or zs (0 + i) 0) e));
    }
