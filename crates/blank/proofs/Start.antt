-- The target filled and the map cleared are a composer's start.
use mathlib.Core.Path.{◌≡◌}
use Prim.Native.Nat.{ℕ}
use mathlib.Core.List.{List}
use Rattle.plane.specs.Tiles.{area}
use Rattle.plane.specs.Turns.{Painting, start}
use Rattle.plane.specs.declared.Rect.{Rect}
use Rattle.blank.specs.Blank.{BackgroundFilled, Cleared}

pub started : (w : Rect) (b : ℕ) (bg t m t' m' : List ℕ) → BackgroundFilled t (area w) b bg t' → Cleared m (area w) m'
    → ◌≡◌ {A = Painting} (record { target = t'; map = m'; stored = 0 }) (start w b bg t m)
unfolding start
started w b bg t m t' m' f c i = record { target = f i; map = c i; stored = 0 }
