-- The settings of a quote (paper 02, Req 09) as a person writes them: `Written` says which texts say which settings, by writing them and not by reading.
-- Bytes by their numbers: newline 10, comma 44, point 46, `=` 61, `_` 95, the digits 48 to 57, small letters from 97 on.
use Rattle.std.specs.Prelude.{ℕ, ◌+◌, ◌-◌, ◌*◌, ◌^◌, ◌≤◌, ◌<◌, ◌≡◌, List, [], ◌∷◌, ◌++◌, Bool, true, ◌&&◌, length, get_or, leb}
use Rattle.format.specs.Markup.{every}
use Rattle.text.specs.Text.{line}
use Rattle.question.specs.declared.Masks.{Masks}
use Rattle.question.specs.declared.Masks.TheVariants.{NotChosen, On, Off}
use Rattle.settings.specs.declared.Edition.{Edition}
use Rattle.settings.specs.declared.Edition.TheVariants.{First, Second}
use Rattle.settings.specs.declared.Settings.{Settings}

-- ---- a pitch: one to five digits, then optionally a point and one to three digits, in micrometres

unfoldable pub digit : ℕ → Bool
digit b = leb 48 b && leb b 57

-- the number that digits spell in decimal
unfoldable pub digits_value : List ℕ → ℕ
digits_value [] = 0
digits_value (d ∷ ds) = (d - 48) * 10 ^ length ds + digits_value ds

-- how a pitch is spelled: the digits of its whole micrometres, and those behind the point. Where there are none of these there is no point
pub record Spelling : Type 0 where
  pub whole : List ℕ
  pub decimals : List ℕ

unfoldable pub pointed : List ℕ → List ℕ
pointed [] = []
pointed (d ∷ ds) = 46 ∷ d ∷ ds

unfoldable pub spelled : Spelling → List ℕ
spelled p = p.whole ++ pointed p.decimals

-- the nanometres of decimals, of which the third counts one
unfoldable pub fraction_of : List ℕ → ℕ
fraction_of ds = digits_value ds * 10 ^ (3 - length ds)

-- a micrometre is 1,000 nanometres
unfoldable pub nanometres : Spelling → ℕ
nanometres p = 1000 * digits_value p.whole + fraction_of p.decimals

-- a right spelling of a pitch of n nanometres: 1 to 65,535
pub record Spells (p : Spelling) (n : ℕ) : Type 0 where
  pub whole_digits : every digit p.whole ≡ true
  pub whole_some : 1 ≤ length p.whole
  pub whole_most : length p.whole ≤ 5
  pub decimal_digits : every digit p.decimals ≡ true
  pub decimals_most : length p.decimals ≤ 3
  pub comes_to : nanometres p ≡ n
  pub least : 1 ≤ n
  pub most : n ≤ 65535

-- ---- the lines, in this order, each ended by a newline

-- edition=
unfoldable pub name_edition : List ℕ
name_edition = 101 ∷ 100 ∷ 105 ∷ 116 ∷ 105 ∷ 111 ∷ 110 ∷ 61 ∷ []

-- pitch_x=
unfoldable pub name_pitch_x : List ℕ
name_pitch_x = 112 ∷ 105 ∷ 116 ∷ 99 ∷ 104 ∷ 95 ∷ 120 ∷ 61 ∷ []

-- pitch_y=
unfoldable pub name_pitch_y : List ℕ
name_pitch_y = 112 ∷ 105 ∷ 116 ∷ 99 ∷ 104 ∷ 95 ∷ 121 ∷ 61 ∷ []

-- masks=
unfoldable pub name_masks : List ℕ
name_masks = 109 ∷ 97 ∷ 115 ∷ 107 ∷ 115 ∷ 61 ∷ []

-- 1 or 2
abbrev pub edition_text : Edition → List ℕ
edition_text First = 49 ∷ []
edition_text Second = 50 ∷ []

-- on, off; the line may lack, and then the choice is not made
unfoldable pub masks_line : Masks → List ℕ
masks_line NotChosen = []
masks_line On = line name_masks (111 ∷ 110 ∷ [])
masks_line Off = line name_masks (111 ∷ 102 ∷ 102 ∷ [])

unfoldable pub settings_text : Edition → Spelling → Spelling → Masks → List ℕ
settings_text e x y m =
    line name_edition (edition_text e) ++
    (line name_pitch_x (spelled x) ++
    (line name_pitch_y (spelled y) ++
    masks_line m))

-- bs is a text of these settings: with some right spelling of each pitch
pub record Written (s : Settings) (bs : List ℕ) : Type 0 where
  pub x : Spelling
  pub y : Spelling
  pub x-spelled : Spells x s.pitch_x
  pub y-spelled : Spells y s.pitch_y
  pub text_is : bs ≡ settings_text s.edition x y s.masks

-- ---- a comma

-- the first comma of bs stands at p
pub record FirstComma (bs : List ℕ) (p : ℕ) : Type 0 where
  pub within : p < length bs
  pub here : get_or bs p 0 ≡ 44
  pub before : (i : ℕ) → i < p → get_or bs i 0 ≡ 44 → ⊥

-- ---- the masks choice that they come to: a lacking line means off in edition 1 and on in edition 2

abbrev pub masks_meant : Edition → Masks → Masks
masks_meant First NotChosen = Off
masks_meant Second NotChosen = On
masks_meant e On = On
masks_meant e Off = Off
