-- How many pixels and bytes an accepted window takes at most. Assumes nothing.
use Prim.Native.Nat.{ℕ, ◌*◌, ◌≤◌}
use mathlib.Core.Path.{◌≡◌}
use mathlib.Core.Bool.{false}
use native.Mathlib.Omega.{arith}
use native.Mathlib.Nat.{mul-le-mul}
use Rattle.format.specs.Entry.{pixel_bytes}
use Rattle.entries.proofs.EntryLaws.{pixel-bytes-few}
use Rattle.plane.specs.Tiles.{area}
use Rattle.plane.specs.declared.Rect.{Rect}
use Rattle.question.specs.Question.{window_bad}
use Rattle.question.proofs.Asking.{window-ok}

-- at most 65,536 rows of 65,536 pixels
pub area-most : (w : Rect) → window_bad w ≡ false → area w ≤ 4294967296
area-most w h = let p = window-ok w h in mul-le-mul p.low p.narrow

-- of at most 24 bytes
pub bytes_most : (w : Rect) (t b : ℕ) → window_bad w ≡ false → b ≡ pixel_bytes t → area w * b ≤ 103079215104
bytes_most w t b h e = let few : b ≤ 24 = omega (arith, pixel-bytes-few t) in mul-le-mul (area-most w h) few
