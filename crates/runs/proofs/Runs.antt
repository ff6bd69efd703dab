-- Laws of a run: its end is one, it may be cut short, and it goes on behind values that are all the same.
use mathlib.Core.Path.{◌≡◌, sym, ◌∙◌}
use Prim.Native.Nat.{ℕ, ◌≤◌, ◌<◌}
use native.Mathlib.Omega.{arith}
use mathlib.Core.Bool.{Bool, true, false, not, true≢false}
use Rattle.plane.proofs.Tests.{by-lt}
use Rattle.runs.specs.Run.{Run}

not-not-same : (v : Bool) → v ≡ not v → ⊥
not-not-same true e = true≢false e
not-not-same false e = true≢false (sym e)

-- the end of a run is one
pub run_only : {f : ℕ → Bool} {a e : ℕ} {v : Bool} {r r' : ℕ} → Run f a e v r → Run f a e v r' → r ≡ r'
run_only {v = v} {r} {r'} x y =
    by-lt r r' (λ l. absurd (not-not-same v (sym (y.same r x.start l) ∙ x.stops (omega (arith, y.end)))))
    (λ l. by-lt r' r (λ l'. absurd (not-not-same v (sym (x.same r' y.start l') ∙ y.stops (omega (arith, x.end))))) (λ l'. omega arith))

-- where there is no number, the run ends at once
pub run-empty : {f : ℕ → Bool} {a e : ℕ} {v : Bool} → a ≡ e → Run f a e v e
run-empty z = record {
  start = omega arith;
  end = omega arith;
  same = λ i b c. absurd (omega arith);
  stops = λ c. absurd (omega arith);
}

-- an end before the run's is the run's end
pub run-cut : {f : ℕ → Bool} {a e e' : ℕ} {v : Bool} {r : ℕ} → Run f a e v r → a ≤ e' → e' ≤ r → Run f a e' v e'
run-cut x l h = record {
  start = l;
  end = omega arith;
  same = λ i b c. x.same i b (omega arith);
  stops = λ c. absurd (omega arith);
}

-- an end behind a run that stops
pub run-stops : {f : ℕ → Bool} {a e e' : ℕ} {v : Bool} {r : ℕ} → Run f a e v r → r < e → r ≤ e' → Run f a e' v r
run-stops x l h = record { start = x.start; end = h; same = x.same; stops = λ _. x.stops l }

-- values v, and then a run of v
pub run_on : {f : ℕ → Bool} {a c e : ℕ} {v : Bool} {r : ℕ} → ((i : ℕ) → a ≤ i → i < c → f i ≡ v) → a ≤ c → Run f c e v r → Run f a e v r
run_on {c = c} s l x =
    record { start = omega arith; end = x.end; same = λ i b h. by-lt i c (λ d. s i b d) (λ d. x.same i d h); stops = x.stops }
