-- The first comma of bytes, and that no text of settings has one. Assumes nothing.
use Prim.Native.Nat.{ℕ, zero, suc, ◌<◌}
use mathlib.Core.Path.{◌≡◌, refl, ◌∙◌, ap}
use mathlib.Core.List.{List, [], ◌∷◌, ◌++◌}
use mathlib.Core.Bool.{true}
use native.Mathlib.Omega.{arith}
use lib.ListN.{length, get_or}
use lib.Dec.{eqb}
use borrow.Author.Tests.{eqb-true, eqb-false, eq-eqb, ne_eqb}
use Rattle.format.specs.Markup.{every, front}
use Rattle.format.proofs.Below.{by_bool, and_both}
use Rattle.format.proofs.Stretches.{not-of}
use Rattle.markup.specs.Stretches.{other_than}
use Rattle.text.specs.Text.{line}
use Rattle.question.specs.declared.Masks.{Masks}
use Rattle.question.specs.declared.Masks.TheVariants.{NotChosen, On, Off}
use Rattle.settings.specs.Settings.{digit, Spelling, pointed, spelled, Spells, name_edition, name_pitch_x, name_pitch_y, name_masks}
use Rattle.settings.specs.Settings.{edition_text, masks_line, settings_text, FirstComma}
use Rattle.settings.specs.Answers.{comma_place}
use Rattle.settings.specs.declared.Edition.{Edition}
use Rattle.settings.specs.declared.Edition.TheVariants.{First, Second}

-- ---- the first comma stands behind the bytes that are other than commas

-- the bytes before are one more where one more is no comma
place-next : (b : ℕ) (bs : List ℕ) → (b ≡ 44 → ⊥) → comma_place (b ∷ bs) ≡ suc (comma_place bs)
unfolding comma_place front other_than
place-next b bs n = rw (ne_eqb b 44 n)

place_here : (b : ℕ) (bs : List ℕ) → b ≡ 44 → comma_place (b ∷ bs) ≡ 0
unfolding comma_place front other_than
place_here b bs e = rw (eq-eqb b 44 e)

-- the first comma is at that place
pub comma-place : (bs : List ℕ) (p : ℕ) → FirstComma bs p → comma_place bs ≡ p
comma-place [] p f = absurd (omega (arith, f.within))
comma-place (b ∷ bs) zero f = place_here b bs f.here
comma-place (b ∷ bs) (suc p) f =
    place-next b bs (f.before 0 (omega arith))
    ∙ ap suc (comma-place bs p (record {
      within = omega (arith, f.within);
      here = f.here;
      before = λ i h. f.before (suc i) (omega arith);
    }))

-- a comma that bytes begin with is the first
first-here : (b : ℕ) (bs : List ℕ) → b ≡ 44 → FirstComma (b ∷ bs) 0
first-here b bs e = record { within = omega arith; here = e; before = λ i l. absurd (omega arith) }

-- else the first of the others is
first_next : (b : ℕ) (bs : List ℕ) (p : ℕ) → (b ≡ 44 → ⊥) → FirstComma bs p → FirstComma (b ∷ bs) (suc p)
first_next b bs p n f = record { within = omega (arith, f.within); here = f.here; before = earlier }
  where
    earlier : (i : ℕ) → i < suc p → get_or (b ∷ bs) i 0 ≡ 44 → ⊥
    earlier zero l = n
    earlier (suc i) l = f.before i (omega arith)

-- a comma stands there, where that is a place
pub comma-first : (bs : List ℕ) → comma_place bs < length bs → FirstComma bs (comma_place bs)
comma-first [] h = absurd (omega arith)
comma-first (b ∷ bs) h =
    by_bool (eqb b 44)
    (λ e. let is = eqb-true b 44 e in rw (place_here b bs is) (first-here b bs is))
    (λ e. let no = eqb-false b 44 e in let is = place-next b bs no in rw is (first_next b bs (comma_place bs) no (comma-first bs (omega arith))))

-- ---- bytes without a comma

abbrev Without : List ℕ → Type 0
Without bs = every (other_than 44) bs ≡ true

-- then that place is behind all of them
pub without-place : (bs : List ℕ) → Without bs → comma_place bs ≡ length bs
unfolding every comma_place front
without-place [] h = refl
without-place (b ∷ bs) h =
    let both = and_both (other_than 44 b) (every (other_than 44) bs) h in
    rw both.0 (ap suc (without-place bs both.1))

-- two parts without one
without-both : (xs ys : List ℕ) → Without xs → Without ys → Without (xs ++ ys)
unfolding every
without-both [] ys h k = k
without-both (x ∷ xs) ys h k =
    let both = and_both (other_than 44 x) (every (other_than 44) xs) h in
    rw both.0 (without-both xs ys both.1 k)

-- digits
without-digits : (ds : List ℕ) → every digit ds ≡ true → Without ds
unfolding every other_than digit
without-digits [] h = refl
without-digits (d ∷ ds) h =
    let both = and_both (digit d) (every digit ds) h in
    rw (not-of digit d 44 both.0 refl) (without-digits ds both.1)

-- a spelling
without-pointed : (ds : List ℕ) → every digit ds ≡ true → Without (pointed ds)
unfolding pointed every other_than
without-pointed [] h = refl
without-pointed (d ∷ ds) h = without-digits (d ∷ ds) h

without-spelled : (p : Spelling) (n : ℕ) → Spells p n → Without (spelled p)
unfolding spelled
without-spelled p n s =
    without-both p.whole (pointed p.decimals) (without-digits p.whole s.whole_digits) (without-pointed p.decimals s.decimal_digits)

-- a line
without-line : (name value : List ℕ) → Without name → Without value → Without (line name value)
unfolding line every other_than
without-line name value h k = without-both (name ++ value) (10 ∷ []) (without-both name value h k) refl

without-edition : (e : Edition) → Without (line name_edition (edition_text e))
unfolding line every other_than name_edition
without-edition First = refl
without-edition Second = refl

without-masks : (m : Masks) → Without (masks_line m)
unfolding masks_line line every other_than name_masks
without-masks NotChosen = refl
without-masks On = refl
without-masks Off = refl

without-pitch-x : Without name_pitch_x
unfolding every other_than name_pitch_x
without-pitch-x = refl

without-pitch-y : Without name_pitch_y
unfolding every other_than name_pitch_y
without-pitch-y = refl

-- a text of settings
pub without-text : (e : Edition) (x y : Spelling) (m : Masks) (a b : ℕ) → Spells x a → Spells y b → Without (settings_text e x y m)
unfolding settings_text
without-text e x y m a b s t =
    without-both (line name_edition (edition_text e)) _ (without-edition e)
    (without-both (line name_pitch_x (spelled x)) _ (without-line name_pitch_x (spelled x) without-pitch-x (without-spelled x a s))
    (without-both (line name_pitch_y (spelled y)) (masks_line m) (without-line name_pitch_y (spelled y) without-pitch-y (without-spelled y b t))
    (without-masks m)))
