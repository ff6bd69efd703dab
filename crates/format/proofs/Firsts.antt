-- Laws of the first refusal in a list of rows. Assumes nothing.
use Prim.Native.Nat.{ℕ, zero, suc, ◌+◌, ◌<◌}
use mathlib.Core.Path.{◌≡◌, refl, sym, ◌∙◌}
use mathlib.Core.List.{List, [], ◌∷◌, ◌++◌}
use mathlib.Core.Bool.{Bool, true, false, cond}
use native.Mathlib.Omega.{arith}
use native.Mathlib.Numerals.{add-one}
use lib.ListN.{get_or, drop}
use Rattle.std.specs.Prelude.{Ok, Err}
use Rattle.format.specs.Checks.{Verdict, Accepted, Check, row, first, rows_below, and_then}
use Rattle.format.specs.declared.Fault.{Fault}
use Rattle.format.specs.declared.Fault.TheVariants as Fault
use Rattle.format.specs.declared.Refusal.{Refusal}
use Rattle.format.proofs.Below.{by_bool, last_or}

-- ---- two verdicts, one after the other

pub by-verdict {ℓ} : {P : Type ℓ} (v : Verdict) → (v ≡ Accepted → P) → ((r : Refusal) → v ≡ Err r → P) → P
by-verdict (Ok _) f g = f refl
by-verdict (Err r) f g = g r refl

pub first-append : (a b : List Check) → first (a ++ b) ≡ and_then (first a) (first b)
first-append [] b = refl
first-append (c ∷ cs) b = by_bool c.given (λ e. rw e) (λ e. rw e (first-append cs b))

pub then-both : (v w : Verdict) → and_then v w ≡ Accepted → (v ≡ Accepted) × (w ≡ Accepted)
then-both (Ok _) w e = (refl, e)
then-both (Err r) w e = let z : ◌≡◌ {A = ℕ} 0 1 = cc in absurd (omega arith)

pub first-both : (a b : List Check) → first (a ++ b) ≡ Accepted → (first a ≡ Accepted) × (first b ≡ Accepted)
first-both a b e = then-both (first a) (first b) (sym (first-append a b) ∙ e)

-- the first list accepts: the second decides
pub first-pass : (a b : List Check) → first a ≡ Accepted → first (a ++ b) ≡ first b
first-pass a b e = first-append a b ∙ rw e

-- the first list refuses
pub first-stop : (a b : List Check) (r : Refusal) → first a ≡ Err r → first (a ++ b) ≡ Err r
first-stop a b r e = first-append a b ∙ rw e

-- ---- a list that accepts: none of its rows is given

pub first-passed : (t : Bool) (r : Refusal) (v : Verdict) → cond t (Err r) v ≡ Accepted → (t ≡ false) × (v ≡ Accepted)
first-passed true r v e = let z : ◌≡◌ {A = ℕ} 0 1 = cc in absurd (omega arith)
first-passed false r v e = (refl, e)

pub passed : (cs : List Check) → first cs ≡ Accepted → (i : ℕ) → (get_or cs i (row Fault.Length 0 false)).given ≡ false
passed [] e i = refl
passed (c ∷ cs) e zero = (first-passed c.given _ (first cs) e).0
passed (c ∷ cs) e (suc i) = passed cs (first-passed c.given _ (first cs) e).1 i

pub passed-rest : (cs : List Check) → first cs ≡ Accepted → (i : ℕ) → first (drop i cs) ≡ Accepted
passed-rest cs e zero = e
passed-rest [] e (suc i) = refl
passed-rest (c ∷ cs) e (suc i) = passed-rest cs (first-passed c.given _ (first cs) e).1 i

-- ---- rows by a number, in the form that an ascending loop wants

pub rows-zero : (f : ℕ → List Check) → first (rows_below 0 f) ≡ Accepted
unfolding rows_below
rows-zero f = refl

pub rows_more : (i : ℕ) (f : ℕ → List Check)
    → first (rows_below i f) ≡ Accepted → first (f i) ≡ Accepted → first (rows_below (i + 1) f) ≡ Accepted
unfolding rows_below
rows_more i f e h = rw add-one (first-pass (rows_below i f) (f i) e ∙ h)

pub rows-stop : (n i : ℕ) (f : ℕ → List Check) (r : Refusal)
    → i < n → first (rows_below i f) ≡ Accepted → first (f i) ≡ Err r → first (rows_below n f) ≡ Err r
unfolding rows_below
rows-stop zero i f r l e h = absurd (omega arith)
rows-stop (suc n) i f r l e h =
    last_or (λ i. first (rows_below i f) ≡ Accepted → first (f i) ≡ Err r → first (rows_below (suc n) f) ≡ Err r) l
    (λ a b. first-pass (rows_below n f) (f n) a ∙ b) (λ k a b. first-stop (rows_below n f) (f n) r (rows-stop n i f r k a b)) e h

pub rows-each : (n i : ℕ) (f : ℕ → List Check) → first (rows_below n f) ≡ Accepted → i < n → first (f i) ≡ Accepted
unfolding rows_below
rows-each zero i f e l = absurd (omega arith)
rows-each (suc n) i f e l =
    let both = first-both (rows_below n f) (f n) e in
    last_or (λ i. first (f i) ≡ Accepted) l both.1 (λ k. rows-each n i f both.0 k)

pub rows_all : (n : ℕ) (f : ℕ → List Check) → ((i : ℕ) → i < n → first (f i) ≡ Accepted) → first (rows_below n f) ≡ Accepted
unfolding rows_below
rows_all zero f h = refl
rows_all (suc n) f h = first-pass (rows_below n f) (f n) (rows_all n f (λ i l. h i (omega arith))) ∙ h n (omega arith)
