-- What stands at the start of bytes: a text, digits, decimals, a pitch and its line, and how many bytes these are. Assumes nothing.
use Prim.Native.Nat.{ℕ, suc, ◌+◌, ◌*◌, ◌^◌, ◌-◌, ◌≤◌, ◌<◌}
use mathlib.Core.Path.{◌≡◌, refl, sym, ◌∙◌, ap}
use mathlib.Core.List.{List, [], ◌∷◌}
use mathlib.Core.Bool.{Bool, true, false, true≢false}
use native.Mathlib.Omega.{arith}
use lib.ListN.{length, drop, take, length-drop}
use lib.Pointwise.{pointwise}
use Rattle.std.specs.Prelude.{nat_eq}
use Rattle.std.specs.Char.{is_ascii_digit}
use Rattle.std.specs.List.{prefix_len}
use Rattle.format.specs.Markup.{front, behind, begins}
use lib.Dec.{eqb, ltb}
use borrow.Author.Tests.{ne_eqb, le-ltb, lt-ltb, ltb-true, ltb-false, not-false}
use Rattle.format.specs.Bytes.{any_of}
use Rattle.format.proofs.Below.{by_bool, none}
use Rattle.markup.proofs.Comparing.{begins-short}
use Rattle.text.specs.Text.{line}
use Rattle.settings.specs.Settings.{digit, digits_value, fraction_of, nanometres, name_edition, name_pitch_x, edition_text}
use Rattle.settings.specs.Reading.{is_point, decimals_at, behind_decimals, decimals_bad, spelling_at, behind_pitch, pitch_at, spelling_bad, pitch_bad}
use Rattle.settings.specs.Reading.{edition_bad, pitch_line_bad, second_line, settings_bad}
use Rattle.settings.specs.declared.Edition.{Edition}
use Rattle.settings.specs.declared.Edition.TheVariants.{First, Second}

-- ---- a text that bytes begin with, as the library compares it

pub begins-is : (text bs : List ℕ) → begins text bs ≡ pointwise nat_eq (take (length text) bs) text
unfolding begins
begins-is [] bs = refl
begins-is (x ∷ xs) [] = refl
begins-is (x ∷ xs) (b ∷ bs) = rw (begins-is xs bs)

-- ---- digits that bytes begin with

digit-is : (b : ℕ) → digit b ≡ is_ascii_digit b
unfolding digit
digit-is b = refl

pub front-taken : (bs : List ℕ) → front digit bs ≡ take (prefix_len is_ascii_digit bs) bs
unfolding front
front-taken [] = refl
front-taken (b ∷ bs) =
    let one : 1 + prefix_len is_ascii_digit bs ≡ suc (prefix_len is_ascii_digit bs) = omega arith in
    by_bool (digit b) (λ e. rw (e, sym (digit-is b) ∙ e, one) (ap (λ r. b ∷ r) (front-taken bs))) (λ e. rw (e, sym (digit-is b) ∙ e))

pub behind-dropped : (bs : List ℕ) → behind digit bs ≡ drop (prefix_len is_ascii_digit bs) bs
unfolding behind
behind-dropped [] = refl
behind-dropped (b ∷ bs) =
    let one : 1 + prefix_len is_ascii_digit bs ≡ suc (prefix_len is_ascii_digit bs) = omega arith in
    by_bool (digit b) (λ e. rw (e, sym (digit-is b) ∙ e, one) (behind-dropped bs)) (λ e. rw (e, sym (digit-is b) ∙ e))

-- ---- decimals

module _ (bs : List ℕ) where
  -- no point
  pub no-point : pointwise nat_eq (take 1 bs) (46 ∷ []) ≡ false
      → (decimals_bad bs ≡ false) × (0 ≡ fraction_of (decimals_at bs)) × (bs ≡ behind_decimals bs)
  unfolding is_point decimals_bad decimals_at fraction_of digits_value behind_decimals
  no-point e = let p = begins-is (46 ∷ []) bs ∙ e in (rw p, rw p, rw p)

  -- a point, and what stands behind it
  module _ (e : pointwise nat_eq (take 1 bs) (46 ∷ []) ≡ true) (x : List ℕ) (g : x ≡ drop 1 bs) (ds : List ℕ) (h : ds ≡ front digit x) where
    there : is_point bs ≡ true
    unfolding is_point
    there = begins-is (46 ∷ []) bs ∙ e

    bad-is : decimals_bad bs ≡ any_of (eqb (length ds) 0 ∷ ltb 3 (length ds) ∷ [])
    unfolding decimals_bad
    bad-is = rw (there, ← g, ← h)

    pub decimals-none : length ds ≡ 0 → decimals_bad bs ≡ true
    unfolding any_of
    decimals-none z = bad-is ∙ rw z

    pub decimals-many : 3 < length ds → decimals_bad bs ≡ true
    unfolding any_of
    decimals-many l = bad-is ∙ rw (ne_eqb (length ds) 0 (λ z. omega arith), lt-ltb 3 (length ds) l)

    pub decimals-right : (length ds ≡ 0 → ⊥) → length ds ≤ 3 → decimals_bad bs ≡ false
    unfolding any_of
    decimals-right a b = bad-is ∙ rw (ne_eqb (length ds) 0 a, le-ltb 3 (length ds) b)

    pub fraction-is : (n u : ℕ) → n ≡ digits_value ds → u ≡ 10 ^ (3 - length ds) → n * u ≡ fraction_of (decimals_at bs)
    unfolding fraction_of decimals_at
    fraction-is n u k l = rw (there, ← g, ← h, k, l)

    pub behind-is : (y : List ℕ) → y ≡ behind digit x → y ≡ behind_decimals bs
    unfolding behind_decimals
    behind-is y k = rw (there, ← g) k

-- what the last of n decimals counts
pub unit-of : (n u k : ℕ) → n ≡ k → u ≡ 10 ^ (3 - k) → u ≡ 10 ^ (3 - n)
unit-of n u k e h = rw e h

-- of one test that test decides
only : (b : Bool) → any_of (b ∷ []) ≡ b
unfolding any_of
only true = refl
only false = refl

-- ---- a pitch, whose whole digits are ds, and what stands behind them y

module _ (bs ds y : List ℕ) (h : ds ≡ front digit bs) (k : y ≡ behind digit bs) where
  spelling-is : spelling_bad bs ≡ any_of (eqb (length ds) 0 ∷ ltb 5 (length ds) ∷ decimals_bad y ∷ [])
  unfolding spelling_bad
  spelling-is = rw (← h, ← k)

  misspelled : spelling_bad bs ≡ true → pitch_bad bs ≡ true
  unfolding pitch_bad any_of
  misspelled e = rw e

  pub whole-none : length ds ≡ 0 → pitch_bad bs ≡ true
  unfolding any_of
  whole-none z = misspelled (spelling-is ∙ rw z)

  pub whole-many : 5 < length ds → pitch_bad bs ≡ true
  unfolding any_of
  whole-many l = misspelled (spelling-is ∙ rw (ne_eqb (length ds) 0 (λ z. omega arith), lt-ltb 5 (length ds) l))

  module _ (some : length ds ≡ 0 → ⊥) (few : length ds ≤ 5) where
    spelling-decimals : spelling_bad bs ≡ decimals_bad y
    unfolding any_of
    spelling-decimals = spelling-is ∙ rw (ne_eqb (length ds) 0 some, le-ltb 5 (length ds) few) (only (decimals_bad y))

    pub wrong-decimals : decimals_bad y ≡ true → pitch_bad bs ≡ true
    wrong-decimals e = misspelled (spelling-decimals ∙ e)

    module _ (right : decimals_bad y ≡ false) (n f : ℕ) (i : n ≡ digits_value ds) (j : f ≡ fraction_of (decimals_at y)) where
      pub pitch-is : 1000 * n + f ≡ pitch_at bs
      unfolding pitch_at nanometres spelling_at
      pitch-is = rw (← h, ← k, i, j)

      pub pitch-none : 1000 * n + f ≡ 0 → pitch_bad bs ≡ true
      unfolding pitch_bad any_of
      pitch-none z = rw (spelling-decimals ∙ right, ← pitch-is, z)

      pub pitch-most : 65535 < 1000 * n + f → pitch_bad bs ≡ true
      unfolding pitch_bad any_of
      pitch-most l = rw (spelling-decimals ∙ right, ← pitch-is, ne_eqb (1000 * n + f) 0 (λ z. omega arith), lt-ltb 65535 (1000 * n + f) l)

      pub pitch-right : (1000 * n + f ≡ 0 → ⊥) → 1000 * n + f ≤ 65535 → pitch_bad bs ≡ false
      unfolding pitch_bad any_of
      pitch-right z l = rw (spelling-decimals ∙ right, ← pitch-is, ne_eqb (1000 * n + f) 0 z, le-ltb 65535 (1000 * n + f) l)

  pub pitch-behind : (r : List ℕ) → r ≡ behind_decimals y → r ≡ behind_pitch bs
  unfolding behind_pitch
  pitch-behind r e = rw (← k) e

-- a pitch that is right is spelled right
pub pitch-spelled : (x : List ℕ) → pitch_bad x ≡ false → spelling_bad x ≡ false
unfolding pitch_bad
pitch-spelled x h = none _ h 0

-- ---- how many bytes there are

-- where bytes begin with xs there are as many
begins-long : (xs bs : List ℕ) → begins xs bs ≡ true → length xs ≤ length bs
begins-long xs bs h =
    by_bool (ltb (length bs) (length xs)) (λ l. absurd (true≢false (sym h ∙ begins-short xs bs (ltb-true _ _ l)))) (λ l. ltb-false _ _ l)

line-long : (e : Edition) → length (line name_edition (edition_text e)) ≡ 10
unfolding line name_edition
line-long First = refl
line-long Second = refl

edition-long : (bs : List ℕ) → edition_bad bs ≡ false → 10 ≤ length bs
unfolding edition_bad any_of
edition-long bs h =
    by_bool (begins (line name_edition (edition_text First)) bs)
    (λ a. omega (arith, begins-long (line name_edition (edition_text First)) bs a, line-long First))
    (λ a. by_bool (begins (line name_edition (edition_text Second)) bs)
    (λ b. omega (arith, begins-long (line name_edition (edition_text Second)) bs b, line-long Second))
    (λ b. absurd (true≢false (rw (a, b) at h))))

-- the edition's line
module _ (bs : List ℕ) (a : Bool) (e : a ≡ edition_bad bs) where
  module _ (n : a ≡ false) where
    pub second-within : 10 ≤ length bs
    second-within = edition-long bs (sym e ∙ n)

-- and the name of the first pitch, of 8 bytes, in right settings
module _ (bs : List ℕ) (right : settings_bad bs ≡ false) where
  edition-right : edition_bad bs ≡ false
  unfolding settings_bad
  edition-right = none _ right 0

  x-right : pitch_line_bad name_pitch_x (second_line bs) ≡ false
  unfolding settings_bad
  x-right = none _ right 1

  x-begins : begins name_pitch_x (second_line bs) ≡ true
  unfolding pitch_line_bad
  x-begins = not-false _ (none _ x-right 0)

  x-long : 8 ≤ length (second_line bs)
  unfolding name_pitch_x
  x-long = begins-long name_pitch_x (second_line bs) x-begins

  pub x-within : 18 ≤ length bs
  unfolding second_line
  x-within = omega (arith, x-long, length-drop 10 bs, edition-long bs edition-right)
