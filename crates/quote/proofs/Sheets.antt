-- The sheet of a quote: its area fits 64 bits, its two lines 49 bytes, and a lent sheet keeps its length. Assumes nothing.
use Prim.Native.Nat.{ℕ, ◌+◌, ◌*◌, ◌^◌, ◌≤◌, ◌<◌}
use mathlib.Core.Path.{◌≡◌}
use mathlib.Core.List.{List, ◌++◌, append_assoc}
use native.Mathlib.Nat.{mul-le-mul, add-mul}
use native.Mathlib.Omega.{arith}
use lib.ListN.{length, drop, length-append, length-drop}
use Rattle.text.specs.Text.{decimal, line}
use Rattle.text.proofs.Digits.{decimal-most, decimal-short}
use Rattle.settings.specs.declared.Settings.{Settings}
use Rattle.quote.specs.Quote.{name_covered, name_area, area_of, sheet_text, overlaid}

module _ (s : Settings) where
  -- ---- the area

  -- pixels and pitches as many and as great as there can be: 2 ^ 32 of 65,535 nanometres each way
  pub area-fits : (covered : ℕ) → covered ≤ 4294967296 → s.pitch_x ≤ 65535 → s.pitch_y ≤ 65535 → area_of s covered < 2 ^ 64
  unfolding area_of
  area-fits covered c x y =
      let most : covered * s.pitch_x * s.pitch_y ≤ 4294967296 * 65535 * 65535 = mul-le-mul (mul-le-mul c x) y in
      omega arith

  pub area-adds : (m n : ℕ) → area_of s (m + n) ≡ area_of s m + area_of s n
  unfolding area_of
  area-adds m n = rw add-mul (add-mul (m * s.pitch_x) (n * s.pitch_x) s.pitch_y)

  -- ---- the two lines

  -- 8 bytes and up to 10 digits, 9 and up to 20, and two newlines
  pub text-most : (covered : ℕ) → covered ≤ 4294967296 → length (sheet_text s covered) ≤ 49
  unfolding sheet_text line name_covered name_area
  text-most covered c =
      let a = decimal-short 10 covered (omega arith) (omega arith) in
      let b = decimal-most (area_of s covered) in
      simp length-append (omega arith)

  -- at the start of a lent sheet: one after the other, then what was there
  pub lines-overlaid : (covered : ℕ) (u : List ℕ) → overlaid (sheet_text s covered) u
      ≡ line name_covered (decimal covered)
      ++ (line name_area (decimal (covered * s.pitch_x * s.pitch_y)) ++ drop (length (sheet_text s covered)) u)
  unfolding overlaid sheet_text area_of
  lines-overlaid covered u = append_assoc (line name_covered (decimal covered)) (line name_area (decimal (area_of s covered))) _

  -- how long they are
  pub lines-length : (covered : ℕ) → length (sheet_text s covered)
      ≡ length (line name_covered (decimal covered)) + length (line name_area (decimal (covered * s.pitch_x * s.pitch_y)))
  unfolding sheet_text area_of
  lines-length covered = length-append (line name_covered (decimal covered)) (line name_area (decimal (area_of s covered)))

pub overlaid-length : (text u : List ℕ) → length text ≤ length u → length (overlaid text u) ≡ length u
unfolding overlaid
overlaid-length text u h = simp (length-append, length-drop) (omega arith)
