-- The sheet's lines as the code puts them together and writes them. Assumes nothing.
use Prim.Native.Nat.{ℕ, ◌*◌, ◌^◌, ◌≤◌, ◌<◌}
use mathlib.Core.Path.{◌≡◌, ◌∙◌}
use mathlib.Core.List.{List, ◌++◌}
use native.Mathlib.Nat.{mul-le-mul}
use native.Mathlib.Omega.{arith}
use lib.ListN.{length, drop}
use Rattle.text.specs.Text.{decimal, line}
use Rattle.settings.specs.declared.Settings.{Settings}
use Rattle.quote.specs.Quote.{name_covered, name_area, area_of, sheet_text, overlaid}
use Rattle.quote.specs.Steps.{Pitched, SheetSays, SheetWritten}
use Rattle.quote.proofs.Sheets.{area-fits, text-most}

-- ---- the lines

-- the sheet's text is what is put after an empty one
module _ (s : Settings) (count : ℕ) (p : Pitched s) (few : count ≤ 4294967296) where
  pub product-fits : count * s.pitch_x < 2 ^ 64
  product-fits = let most : count * s.pitch_x ≤ 4294967296 * 65535 = mul-le-mul few p.x_most in omega arith

  pub products-fit : count * s.pitch_x * s.pitch_y < 2 ^ 64
  unfolding area_of
  products-fit = area-fits s count few p.x_most p.y_most

  pub lines-said : (r : List ℕ) → r ≡ line name_covered (decimal count) ++ line name_area (decimal (count * s.pitch_x * s.pitch_y)) → SheetSays s count r
  unfolding sheet_text area_of
  lines-said r e = let said : r ≡ sheet_text s count = e in record { text = said; most = rw said (text-most s count few) }

-- ---- the sheet: the text's bytes b, and behind them what was there

pub sheet-written : (s : Settings) (count : ℕ) (u t b : List ℕ) → SheetSays s count t → b ≡ t → SheetWritten s count u (b ++ drop (length b) u) (length b)
unfolding overlaid
sheet-written s count u t b d e = let said : b ≡ sheet_text s count = e ∙ d.text in record { sheet-is = rw said; length_is = rw said }
