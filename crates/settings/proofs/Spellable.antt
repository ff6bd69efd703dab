-- Every settings with pitches of 1 to 65,535 nanometres have a text: each pitch can be spelled. Assumes nothing.
use Prim.Native.Nat.{ℕ, ◌+◌, ◌/◌, ◌%◌, ◌≤◌, ◌<◌}
use mathlib.Core.Path.{◌≡◌, refl}
use mathlib.Core.List.{[], ◌∷◌}
use mathlib.Core.Bool.{true}
use native.Mathlib.Omega.{arith}
use borrow.Author.Tests.{le-leb}
use Rattle.format.specs.Markup.{every}
use Rattle.settings.specs.Settings.{digit, digits_value, Spelling, fraction_of, nanometres, Spells, settings_text}
use Rattle.settings.specs.Claims.{AllSpellable}

-- a digit's byte is one
pub digit-is : (d : ℕ) → d < 10 → digit (48 + d) ≡ true
unfolding digit
digit-is d h = rw (le-leb 48 (48 + d) (omega arith), le-leb (48 + d) 57 (omega arith))

-- two digits of whole micrometres, which are at most 65, and three behind the point
abbrev spelling : ℕ → Spelling
spelling n = record {
  whole = (48 + n / 10000) ∷ (48 + n / 1000 % 10) ∷ [];
  decimals = (48 + n / 100 % 10) ∷ (48 + n / 10 % 10) ∷ (48 + n % 10) ∷ [];
}

-- they come to n
comes : (n : ℕ) → nanometres (spelling n) ≡ n
unfolding nanometres digits_value fraction_of
comes n =
    let hundreds : n / 100 ≡ n / 10 / 10 = omega arith in
    let thousands : n / 1000 ≡ n / 100 / 10 = omega arith in
    let ten-thousands : n / 10000 ≡ n / 1000 / 10 = omega arith in
    omega arith

pub spells : (n : ℕ) → 1 ≤ n → n ≤ 65535 → Spells (spelling n) n
unfolding every
spells n low high =
    record {
      whole_digits = rw (digit-is (n / 10000) (omega arith), digit-is (n / 1000 % 10) (omega arith));
      whole_some = omega arith;
      whole_most = omega arith;
      decimal_digits = rw (digit-is (n / 100 % 10) (omega arith), digit-is (n / 10 % 10) (omega arith), digit-is (n % 10) (omega arith));
      decimals_most = omega arith;
      comes_to = comes n;
      least = low;
      most = high;
    }

pub all-spellable : AllSpellable
all-spellable s x₁ x₂ y₁ y₂ = (
  settings_text s.edition (spelling s.pitch_x) (spelling s.pitch_y) s.masks,
  record {
    x = spelling s.pitch_x;
    y = spelling s.pitch_y;
    x-spelled = spells s.pitch_x x₁ x₂;
    y-spelled = spells s.pitch_y y₁ y₂;
    text_is = refl;
  },
)
