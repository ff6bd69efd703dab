-- What is claimed of settings: which bytes are settings and which are refused how, said by writing and not by reading (`proofs/Reading` proves it); that
-- all settings whose pitches are right have a text (`proofs/Spellable`); and what the masks line and the edition come to (`proofs/Meaning`).
use Rattle.std.specs.Prelude.{ℕ, ◌≤◌, ◌≡◌, ◌↔◌, List, true, false}
use Rattle.format.specs.Checks.{Accepted, Refused}
use Rattle.question.specs.Question.{masks_on}
use Rattle.question.specs.declared.Masks.TheVariants.{NotChosen, On, Off}
use Rattle.settings.specs.Settings.{Written, FirstComma, masks_meant}
use Rattle.settings.specs.Reading.{settings_in}
use Rattle.settings.specs.Answers.{settings_verdict}
use Rattle.settings.specs.declared.Edition.{Edition}
use Rattle.settings.specs.declared.Edition.TheVariants.{First, Second}
use Rattle.settings.specs.declared.Settings.{Settings}
use Rattle.format.specs.declared.Fault.TheVariants as Fault

-- ---- which bytes are settings: a claim about any bytes

pub record SettingsClaims (bs : List ℕ) : Type 0 where
  -- they are accepted and read as s exactly where they are a text of s
  pub reads : (s : Settings) → Written s bs ↔ ((settings_verdict bs ≡ Accepted) × (settings_in bs ≡ s))
  -- one text says one settings
  pub one : (s r : Settings) → Written s bs → Written r bs → s ≡ r
  -- a comma anywhere is 34 at the first
  pub comma : (p : ℕ) → FirstComma bs p ↔ (settings_verdict bs ≡ Refused Fault.Comma p)
  -- any other fault is 35 at 0
  pub fault : (((p : ℕ) → FirstComma bs p → ⊥) × ((s : Settings) → Written s bs → ⊥)) ↔ (settings_verdict bs ≡ Refused Fault.Settings 0)

abbrev pub AllSettings : Type 0
AllSettings = (bs : List ℕ) → SettingsClaims bs

-- ---- all settings with pitches of 1 to 65,535 nanometres have a text, so that what is claimed of texts is claimed of something

abbrev pub AllSpellable : Type 0
AllSpellable = (s : Settings) → 1 ≤ s.pitch_x → s.pitch_x ≤ 65535 → 1 ≤ s.pitch_y → s.pitch_y ≤ 65535 → (bs : List ℕ) × Written s bs

-- ---- whether masks are applied

pub record MasksMeaning : Type 0 where
  -- a lacking line means off in edition 1 and on in edition 2
  pub first : masks_on (masks_meant First NotChosen) ≡ false
  pub second : masks_on (masks_meant Second NotChosen) ≡ true
  -- a line means what it says, in either edition
  pub on : (e : Edition) → masks_on (masks_meant e On) ≡ true
  pub off : (e : Edition) → masks_on (masks_meant e Off) ≡ false
