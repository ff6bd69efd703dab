-- How the settings of a quote are read: whether bytes are settings at all, and which. `proofs/Reading` proves that they say exactly what `Written` says.
-- What is read here of bytes that are no settings means nothing.
use Rattle.std.specs.Prelude.{ℕ, List, [], ◌∷◌, Bool, false, cond, not, length, drop, eqb, ltb}
use Rattle.format.specs.Bytes.{any_of}
use Rattle.format.specs.Markup.{front, behind, begins}
use Rattle.format.specs.Container.{same_bytes}
use Rattle.text.specs.Text.{line}
use Rattle.question.specs.declared.Masks.{Masks}
use Rattle.question.specs.declared.Masks.TheVariants.{NotChosen, On, Off}
use Rattle.settings.specs.Settings.{digit, Spelling, nanometres, name_edition, name_pitch_x, name_pitch_y, edition_text, masks_line}
use Rattle.settings.specs.declared.Edition.{Edition}
use Rattle.settings.specs.declared.Edition.TheVariants.{First, Second}
use Rattle.settings.specs.declared.Settings.{Settings}

-- ---- what a pitch's whole digits are followed by: a point and decimals, or anything else

unfoldable pub is_point : List ℕ → Bool
is_point bs = begins (46 ∷ []) bs

unfoldable pub decimals_at : List ℕ → List ℕ
decimals_at bs = cond (is_point bs) (front digit (drop 1 bs)) []

unfoldable pub behind_decimals : List ℕ → List ℕ
behind_decimals bs = cond (is_point bs) (behind digit (drop 1 bs)) bs

-- a point is followed by one to three digits
unfoldable pub decimals_bad : List ℕ → Bool
decimals_bad bs = cond (is_point bs) (any_of (eqb (length (front digit (drop 1 bs))) 0 ∷ ltb 3 (length (front digit (drop 1 bs))) ∷ [])) false

-- ---- a pitch

unfoldable pub spelling_at : List ℕ → Spelling
spelling_at bs = record { whole = front digit bs; decimals = decimals_at (behind digit bs) }

unfoldable pub behind_pitch : List ℕ → List ℕ
behind_pitch bs = behind_decimals (behind digit bs)

unfoldable pub pitch_at : List ℕ → ℕ
pitch_at bs = nanometres (spelling_at bs)

unfoldable pub spelling_bad : List ℕ → Bool
spelling_bad bs = any_of (eqb (length (front digit bs)) 0 ∷ ltb 5 (length (front digit bs)) ∷ decimals_bad (behind digit bs) ∷ [])

unfoldable pub pitch_bad : List ℕ → Bool
pitch_bad bs = any_of (spelling_bad bs ∷ eqb (pitch_at bs) 0 ∷ ltb 65535 (pitch_at bs) ∷ [])

-- ---- the lines

-- either edition's line has 10 bytes
unfoldable pub edition_bad : List ℕ → Bool
edition_bad bs = not (any_of (begins (line name_edition (edition_text First)) bs ∷ begins (line name_edition (edition_text Second)) bs ∷ []))

unfoldable pub edition_at : List ℕ → Edition
edition_at bs = cond (begins (line name_edition (edition_text First)) bs) First Second

-- a pitch's line: either name has 8 bytes
unfoldable pub pitch_line_bad : List ℕ → List ℕ → Bool
pitch_line_bad name bs = any_of (not (begins name bs) ∷ pitch_bad (drop 8 bs) ∷ not (begins (10 ∷ []) (behind_pitch (drop 8 bs))) ∷ [])

unfoldable pub behind_pitch_line : List ℕ → List ℕ
behind_pitch_line bs = drop 1 (behind_pitch (drop 8 bs))

-- the masks line, with which the settings end, or nothing
unfoldable pub masks_bad : List ℕ → Bool
masks_bad bs = not (any_of (same_bytes bs (masks_line NotChosen) ∷ same_bytes bs (masks_line On) ∷ same_bytes bs (masks_line Off) ∷ []))

unfoldable pub masks_at : List ℕ → Masks
masks_at bs = cond (same_bytes bs (masks_line NotChosen)) NotChosen (cond (same_bytes bs (masks_line On)) On Off)

-- ---- the settings

unfoldable pub second_line : List ℕ → List ℕ
second_line bs = drop 10 bs

unfoldable pub third_line : List ℕ → List ℕ
third_line bs = behind_pitch_line (second_line bs)

unfoldable pub last_line : List ℕ → List ℕ
last_line bs = behind_pitch_line (third_line bs)

unfoldable pub settings_bad : List ℕ → Bool
settings_bad bs =
    any_of
    (edition_bad bs ∷
    pitch_line_bad name_pitch_x (second_line bs) ∷
    pitch_line_bad name_pitch_y (third_line bs) ∷
    masks_bad (last_line bs) ∷
    [])

unfoldable pub settings_in : List ℕ → Settings
settings_in bs =
    record {
      edition = edition_at bs;
      pitch_x = pitch_at (drop 8 (second_line bs));
      pitch_y = pitch_at (drop 8 (third_line bs));
      masks = masks_at (last_line bs);
    }
