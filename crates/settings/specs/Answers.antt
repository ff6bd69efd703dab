-- The refusals of settings, 34 and 35, and what a reading of them answers.
use Rattle.std.specs.Prelude.{ℕ, ◌≡◌, List, [], ◌∷◌, length, ltb, Result}
use Rattle.format.specs.Checks.{Verdict, Check, row, first, number_of, place_of, answer_if, verdict_in}
use Rattle.format.specs.Markup.{front}
use Rattle.format.specs.declared.Fault.TheVariants as Fault
use Rattle.format.specs.declared.Refusal.{Refusal}
use Rattle.markup.specs.Stretches.{other_than}
use Rattle.settings.specs.Reading.{settings_bad, settings_in}
use Rattle.settings.specs.declared.Settings.{Settings}

-- how many bytes stand before the first comma: all where there is none
unfoldable pub comma_place : List ℕ → ℕ
comma_place bs = length (front (other_than 44) bs)

-- a comma anywhere is 34 there, and goes first; any other fault 35 at 0
unfoldable pub settings_rows : List ℕ → List Check
settings_rows bs =
    row Fault.Comma (comma_place bs) (ltb (comma_place bs) (length bs)) ∷
    row Fault.Settings 0 (settings_bad bs) ∷
    []

unfoldable pub settings_verdict : List ℕ → Verdict
settings_verdict bs = first (settings_rows bs)

-- ---- the answer, by the verdict: a refusal has no settings

pub record SettingsRead (bs : List ℕ) (r : Result Settings Refusal) : Type 0 where
  pub answer_is : r ≡ answer_if (settings_verdict bs) (settings_in bs)
  pub number_is : number_of (verdict_in r) ≡ number_of (settings_verdict bs)
  pub place_is : place_of (verdict_in r) ≡ place_of (settings_verdict bs)
