-- Laws of verdicts of the same number, places aside, and of the rows that give them. Assumes nothing.
use Prim.Native.Nat.{ℕ, zero, suc, ◌<◌}
use mathlib.Core.Path.{◌≡◌, refl}
use mathlib.Core.List.{List, [], ◌∷◌, ◌++◌}
use mathlib.Core.Bool.{Bool}
use native.Mathlib.Omega.{arith}
use Rattle.std.specs.Prelude.{Ok, Err}
use Rattle.format.specs.Checks.{Verdict, Accepted, Refused, Check, row, first, rows_below, and_then, number_of}
use Rattle.format.specs.declared.Fault.{Fault}
use Rattle.format.proofs.Below.{by_bool}
use Rattle.format.proofs.Firsts.{first-append}
use Rattle.equivalent.specs.Claims.{SameRefusal, accepted, refused}

-- ---- verdicts

pub refusal-self : (v : Verdict) → SameRefusal v v
refusal-self (Ok _) = accepted
refusal-self (Err e) = refused

pub both-accepted : {v w : Verdict} → v ≡ Accepted → w ≡ Accepted → SameRefusal v w
both-accepted e f = rw (e, f) accepted

pub accepted-too : {v w : Verdict} → SameRefusal v w → v ≡ Accepted → w ≡ Accepted
accepted-too accepted e = refl
accepted-too refused e = let z : ◌≡◌ {A = ℕ} 0 1 = cc in absurd (omega arith)

pub same_number : {v w : Verdict} → SameRefusal v w → number_of v ≡ number_of w
same_number accepted = refl
same_number refused = refl

-- both accept, or both refuse
pub by-refusal {ℓ} : {P : Type ℓ} {v w : Verdict} → SameRefusal v w → (v ≡ Accepted → w ≡ Accepted → P)
    → ((f : Fault) (p q : ℕ) → v ≡ Refused f p → w ≡ Refused f q → P) → P
by-refusal accepted g h = g refl refl
by-refusal (refused {f} {p} {q}) g h = h f p q refl refl

pub then_same : {v v' w w' : Verdict} → SameRefusal v v' → SameRefusal w w' → SameRefusal (and_then v w) (and_then v' w')
then_same accepted t = t
then_same refused t = refused

-- ---- rows

-- for the same fault, of which both are given or neither
pub row_same : (f : Fault) (p q : ℕ) (t u : Bool) → t ≡ u → SameRefusal (first (row f p t ∷ [])) (first (row f q u ∷ []))
row_same f p q t u e = rw e (by_bool u (λ o. rw o refused) (λ o. rw o accepted))

pub both-same : (cs cs' ds ds' : List Check) → SameRefusal (first cs) (first cs') → SameRefusal (first ds) (first ds')
    → SameRefusal (first (cs ++ ds)) (first (cs' ++ ds'))
both-same cs cs' ds ds' s t = rw (first-append cs ds, first-append cs' ds') (then_same s t)

pub below-same : (n : ℕ) (f g : ℕ → List Check) → ((k : ℕ) → k < n → SameRefusal (first (f k)) (first (g k)))
    → SameRefusal (first (rows_below n f)) (first (rows_below n g))
unfolding rows_below
below-same zero f g h = accepted
below-same (suc n) f g h = both-same (rows_below n f) (rows_below n g) (f n) (g n) (below-same n f g (λ k l. h k (omega arith))) (h n (omega arith))
