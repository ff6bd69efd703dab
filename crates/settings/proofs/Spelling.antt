-- One pitch: a right spelling is read as itself, and what is read as a pitch is a right spelling. Assumes nothing.
use Prim.Native.Nat.{ℕ, zero, suc, ◌≤◌}
use mathlib.Core.Path.{◌≡◌, refl, sym, ◌∙◌, ap}
use mathlib.Core.List.{List, [], ◌∷◌, ◌++◌, append_assoc}
use mathlib.Core.Bool.{true, false, not}
use native.Mathlib.Omega.{arith}
use lib.ListN.{length, drop}
use lib.Dec.{eqb, ltb}
use borrow.Author.Tests.{ltb-false, eqb-false, le-ltb, ne_eqb}
use Rattle.format.specs.Bytes.{any_of}
use Rattle.format.specs.Markup.{FirstByte, every, front, behind, begins}
use Rattle.format.proofs.Below.{by_bool, none}
use Rattle.format.proofs.Stretches.{front-behind, every_front, front-stretch, behind-stretch, begins-is}
use Rattle.settings.specs.Settings.{digit, Spelling, pointed, spelled, nanometres, Spells}
use Rattle.settings.specs.Reading.{is_point, decimals_at, behind_decimals, decimals_bad, spelling_at, behind_pitch, pitch_at, spelling_bad, pitch_bad}

-- ---- a right spelling is read as itself, where a newline follows

-- a newline is no digit
newline : (r : List ℕ) → FirstByte (λ b. not (digit b)) (10 ∷ r)
unfolding digit
newline r = refl

-- the decimals are read, and what stands behind them
decimals-found : (ds r : List ℕ) → every digit ds ≡ true → decimals_at (pointed ds ++ (10 ∷ r)) ≡ ds
unfolding decimals_at is_point begins pointed
decimals-found [] r h = refl
decimals-found (d ∷ ds) r h = front-stretch digit (d ∷ ds) (10 ∷ r) h (newline r)

decimals-behind : (ds r : List ℕ) → every digit ds ≡ true → behind_decimals (pointed ds ++ (10 ∷ r)) ≡ 10 ∷ r
unfolding behind_decimals is_point begins pointed
decimals-behind [] r h = refl
decimals-behind (d ∷ ds) r h = behind-stretch digit (d ∷ ds) (10 ∷ r) h (newline r)

-- at most three are not bad
decimals-good : (ds r : List ℕ) → every digit ds ≡ true → length ds ≤ 3 → decimals_bad (pointed ds ++ (10 ∷ r)) ≡ false
unfolding decimals_bad is_point begins pointed any_of
decimals-good [] r h l = refl
decimals-good (d ∷ ds) r h l =
    rw (front-stretch digit (d ∷ ds) (10 ∷ r) h (newline r), ne_eqb (suc (length ds)) 0 (λ e. omega arith), le-ltb 3 (suc (length ds)) l)

-- neither a point nor a newline is a digit
whole-ends : (ds r : List ℕ) → FirstByte (λ b. not (digit b)) (pointed ds ++ (10 ∷ r))
unfolding pointed digit
whole-ends [] r = refl
whole-ends (d ∷ ds) r = refl

module _ (p : Spelling) (n : ℕ) (r : List ℕ) (s : Spells p n) where
  -- the digits before the point, and what stands behind them
  whole-found : front digit (spelled p ++ (10 ∷ r)) ≡ p.whole
  unfolding spelled
  whole-found =
      rw (append_assoc p.whole (pointed p.decimals) (10 ∷ r))
      (front-stretch digit p.whole (pointed p.decimals ++ (10 ∷ r)) s.whole_digits (whole-ends p.decimals r))

  whole-behind : behind digit (spelled p ++ (10 ∷ r)) ≡ pointed p.decimals ++ (10 ∷ r)
  unfolding spelled
  whole-behind =
      rw (append_assoc p.whole (pointed p.decimals) (10 ∷ r))
      (behind-stretch digit p.whole (pointed p.decimals ++ (10 ∷ r)) s.whole_digits (whole-ends p.decimals r))

  pub spelling-found : spelling_at (spelled p ++ (10 ∷ r)) ≡ p
  unfolding spelling_at
  spelling-found =
      let decimals-are = ap decimals_at whole-behind ∙ decimals-found p.decimals r s.decimal_digits in
      λ i. record { whole = whole-found i; decimals = decimals-are i }

  pub pitch-found : pitch_at (spelled p ++ (10 ∷ r)) ≡ n
  unfolding pitch_at
  pitch-found = ap nanometres spelling-found ∙ s.comes_to

  pub pitch-behind : behind_pitch (spelled p ++ (10 ∷ r)) ≡ 10 ∷ r
  unfolding behind_pitch
  pitch-behind = ap behind_decimals whole-behind ∙ decimals-behind p.decimals r s.decimal_digits

  spelling-good : spelling_bad (spelled p ++ (10 ∷ r)) ≡ false
  unfolding spelling_bad any_of
  spelling-good =
      let some : length p.whole ≡ 0 → ⊥ = λ e. omega (arith, s.whole_some) in
      let good = decimals-good p.decimals r s.decimal_digits s.decimals_most in
      rw (whole-found, whole-behind, ne_eqb (length p.whole) 0 some, le-ltb 5 (length p.whole) s.whole_most, good)

  pub pitch-good : pitch_bad (spelled p ++ (10 ∷ r)) ≡ false
  unfolding pitch_bad any_of
  pitch-good =
      let some : n ≡ 0 → ⊥ = λ e. omega (arith, s.least) in
      rw (spelling-good, pitch-found, ne_eqb n 0 some, le-ltb 65535 n s.most)

-- ---- what is read as a pitch is a right spelling

-- some digits are written behind a point
pointed-some : (ds : List ℕ) → (length ds ≡ 0 → ⊥) → pointed ds ≡ 46 ∷ ds
unfolding pointed
pointed-some [] n = absurd (n refl)
pointed-some (d ∷ ds) n = refl

begins-point : (bs : List ℕ) → is_point bs ≡ true → bs ≡ 46 ∷ drop 1 bs
unfolding is_point
begins-point bs e = begins-is (46 ∷ []) bs e

not-zero : (n : ℕ) → (n ≡ 0 → ⊥) → 1 ≤ n
not-zero zero ne = absurd (ne refl)
not-zero (suc n) ne = omega arith

-- the decimals that are read
record Decimals (bs : List ℕ) : Type 0 where
  written : bs ≡ pointed (decimals_at bs) ++ behind_decimals bs
  digits : every digit (decimals_at bs) ≡ true
  most : length (decimals_at bs) ≤ 3

-- behind a point
behind-point : (bs : List ℕ) → is_point bs ≡ true → decimals_bad bs ≡ false → Decimals bs
unfolding decimals_at behind_decimals decimals_bad
behind-point bs e h =
    let ds : List ℕ = front digit (drop 1 bs) in
    let tests = none (eqb (length ds) 0 ∷ ltb 3 (length ds) ∷ []) (rw e at h) in
    let some : pointed ds ≡ 46 ∷ ds = pointed-some ds (eqb-false (length ds) 0 (tests 0)) in
    record {
      written = rw (e, some) (begins-point bs e ∙ ap (λ r. 46 ∷ r) (front-behind digit (drop 1 bs)));
      digits = rw e (every_front digit (drop 1 bs));
      most = rw e (ltb-false 3 (length ds) (tests 1));
    }

-- where there is no point
without-point : (bs : List ℕ) → is_point bs ≡ false → Decimals bs
unfolding decimals_at behind_decimals every pointed
without-point bs e = record { written = rw e; digits = rw e; most = rw e (omega arith) }

decimals-right : (bs : List ℕ) → decimals_bad bs ≡ false → Decimals bs
decimals-right bs h = by_bool (is_point bs) (λ e. behind-point bs e h) (without-point bs)

-- a spelling that is read
record Digits (bs : List ℕ) : Type 0 where
  some : 1 ≤ length (front digit bs)
  most : length (front digit bs) ≤ 5
  decimals : Decimals (behind digit bs)

digits-right : (bs : List ℕ) → spelling_bad bs ≡ false → Digits bs
unfolding spelling_bad
digits-right bs h =
    let n : ℕ = length (front digit bs) in
    let tests = none (eqb n 0 ∷ ltb 5 n ∷ decimals_bad (behind digit bs) ∷ []) h in
    let ne : n ≡ 0 → ⊥ = eqb-false n 0 (tests 0) in
    record {
      some = not-zero n ne;
      most = ltb-false 5 n (tests 1);
      decimals = decimals-right (behind digit bs) (tests 2);
    }

-- a pitch that is read
pub record PitchRead (bs : List ℕ) : Type 0 where
  pub written : bs ≡ spelled (spelling_at bs) ++ behind_pitch bs
  pub right : Spells (spelling_at bs) (pitch_at bs)

pub pitch-right : (bs : List ℕ) → pitch_bad bs ≡ false → PitchRead bs
unfolding pitch_bad spelling_at behind_pitch pitch_at spelled
pitch-right bs h =
    let n : ℕ = pitch_at bs in
    let tests = none (spelling_bad bs ∷ eqb n 0 ∷ ltb 65535 n ∷ []) h in
    let d = digits-right bs (tests 0) in
    record {
      written =
          front-behind digit bs
          ∙ ap (λ r. front digit bs ++ r) d.decimals.written
          ∙ sym (append_assoc (front digit bs) (pointed (decimals_at (behind digit bs))) (behind_decimals (behind digit bs)));
      right = record {
        whole_digits = every_front digit bs;
        whole_some = d.some;
        whole_most = d.most;
        decimal_digits = d.decimals.digits;
        decimals_most = d.decimals.most;
        comes_to = refl;
        least = not-zero n (eqb-false n 0 (tests 1));
        most = ltb-false 65535 n (tests 2);
      };
    }
