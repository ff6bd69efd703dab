-- A question's own refusals: 20, 21, 22 of what is asked and lent, 23 over the chosen entries.
use Rattle.std.specs.Prelude.{ℕ, ◌+◌, ◌*◌, ◌/◌, List, [], ◌∷◌, Bool, true, false, cond, not, length, eqb, ltb, ℤ}
use Rattle.format.specs.Bytes.{any_of, shifted}
use Rattle.format.specs.Entry.{pixel_type, pixel_bytes}
use Rattle.format.specs.Checks.{Check, row, rows_below}
use Rattle.format.specs.Directory.{tile_count, entry_place}
use Rattle.plane.specs.declared.Rect.{Rect}
use Rattle.tiles.specs.FileTile.{rectangle, meets}
use Rattle.question.specs.declared.Masks.{Masks}
use Rattle.question.specs.declared.Masks.TheVariants.{NotChosen, On, Off}
use Rattle.question.specs.declared.WindowRequest.{WindowRequest}
use Rattle.format.specs.declared.Fault.TheVariants as Fault

-- masks are off unless asked for
abbrev pub masks_on : Masks → Bool
masks_on NotChosen = false
masks_on On = true
masks_on Off = false

-- the window in plane coordinates, which are the signed ones plus 2 ^ 31
abbrev pub window_of : ℤ → ℤ → ℕ → ℕ → Rect
window_of left top width height = record { left = shifted left; top = shifted top; width = width; height = height }

abbrev pub request_window : WindowRequest → Rect
request_window f = window_of f.left f.top f.width f.height

-- ---- ask

-- refusal 20: a side not 1 to 65,536, or right or bottom edge above 2,147,483,647
unfoldable pub window_bad : Rect → Bool
window_bad w =
    any_of
    (eqb w.width 0 ∷
    ltb 65536 w.width ∷
    eqb w.height 0 ∷
    ltb 65536 w.height ∷
    ltb 4294967295 (w.left + w.width) ∷
    ltb 4294967295 (w.top + w.height) ∷
    [])

-- refusal 21: asked type not listed, or background not one pixel long
unfoldable pub pixel_bad : ℕ → List ℕ → Bool
pixel_bad t background = any_of (eqb (pixel_bytes t) 0 ∷ not (eqb (length background) (pixel_bytes t)) ∷ [])

-- refusal 22: target or map too short, of these lengths
unfoldable pub lent_bad : Rect → ℕ → ℕ → ℕ → Bool
lent_bad w t target map =
    any_of
    (ltb target (w.height * w.width * pixel_bytes t) ∷
    ltb map ((w.height * w.width + 7) / 8) ∷
    [])

unfoldable pub ask_rows : WindowRequest → List ℕ → ℕ → ℕ → List Check
ask_rows f background target map =
    row Fault.Window 0 (window_bad (request_window f)) ∷
    row Fault.AskedPixel 0 (pixel_bad f.pixel_type background) ∷
    row Fault.LentTooShort 0 (lent_bad (request_window f) f.pixel_type target map) ∷
    []

-- ---- agree

-- refusal 23 at an entry: it meets the window and has another type
unfoldable pub type_bad : List ℕ → Rect → ℕ → ℕ → Bool
type_bad bs w t e = cond (meets (rectangle bs e) w) (not (eqb (pixel_type bs e) t)) false

-- at entry k, where it is chosen
abbrev pub agree_row : List ℕ → (ℕ → Bool) → Rect → ℕ → ℕ → List Check
agree_row bs chosen w t k = row Fault.TileType (entry_place bs k) (cond (chosen k) (type_bad bs w t (entry_place bs k)) false) ∷ []

unfoldable pub agree_rows : List ℕ → (ℕ → Bool) → Rect → ℕ → List Check
agree_rows bs chosen w t = rows_below (tile_count bs) (agree_row bs chosen w t)
