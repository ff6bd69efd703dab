-- A window cut in two by a straight line between two columns or two rows.
use Rattle.std.specs.Prelude.{ℕ, ◌+◌, ◌*◌, ◌-◌, ◌^◌, ◌≤◌, ◌<◌, ◌≡◌, ◌⊎◌, get_or}
use Rattle.plane.specs.declared.Rect.{Rect}
use Rattle.plane.specs.Paint.{bit}
use Rattle.plane.specs.Turns.{Painting}

-- so many of the window's columns, or rows, lie before the line
pub data Line : Type 0 where
  column row : ℕ → Line

-- at least one lies on each side
abbrev pub Cuts : Line → Rect → Type 0
Cuts (column c) w = (1 ≤ c) × (c < w.width)
Cuts (row c) w = (1 ≤ c) × (c < w.height)

-- the two halves
abbrev pub fore : Line → Rect → Rect
fore (column c) w = record { left = w.left; top = w.top; width = c; height = w.height }
fore (row c) w = record { left = w.left; top = w.top; width = w.width; height = c }

abbrev pub rear : Line → Rect → Rect
rear (column c) w = record { left = w.left + c; top = w.top; width = w.width - c; height = w.height }
rear (row c) w = record { left = w.left; top = w.top + c; width = w.width; height = w.height - c }

-- the plane pixel (u, v) lies in the window
pub record Inside (w : Rect) (u v : ℕ) : Type 0 where
  pub left : w.left ≤ u
  pub right : u < w.left + w.width
  pub top : w.top ≤ v
  pub bottom : v < w.top + w.height

-- a window that refusal 20 does not refuse: sides from 1 to 65,536, right and bottom edge at most 2,147,483,647 (shifted: below 2^32)
pub record Proper (w : Rect) : Type 0 where
  pub wide : 1 ≤ w.width
  pub narrow : w.width ≤ 65536
  pub high : 1 ≤ w.height
  pub low : w.height ≤ 65536
  pub right : w.left + w.width < 2 ^ 32
  pub bottom : w.top + w.height < 2 ^ 32

-- a tile's rectangle a meets the window, each of which has a pixel, as refusal 23 asks: they share one, masks aside
pub record Meets (a w : Rect) : Type 0 where
  pub left : w.left < a.left + a.width
  pub right : a.left < w.left + w.width
  pub top : w.top < a.top + a.height
  pub bottom : a.top < w.top + w.height

-- of the two halves: refusal 20 refuses neither, refusal 23 only where it refuses the whole, and each pixel of the window lies in one and not in the other
pub record Halves (l : Line) (w : Rect) : Type 0 where
  pub fore_proper : Proper (fore l w)
  pub rear_proper : Proper (rear l w)
  pub fore_meets : (a : Rect) → Meets a (fore l w) → Meets a w
  pub rear_meets : (a : Rect) → Meets a (rear l w) → Meets a w
  pub either : (u v : ℕ) → Inside w u v → Inside (fore l w) u v ⊎ Inside (rear l w) u v
  pub not-both : (u v : ℕ) → Inside (fore l w) u v → Inside (rear l w) u v → ⊥

-- compared at the same plane pixel: its bytes and its map bit are the same in the one window's painting and in the other's
abbrev pub SamePixels : ℕ → (w w' : Rect) → Painting → Painting → Type 0
SamePixels b w w' s s' =
    (x y x' y' : ℕ) → x < w.width → y < w.height → x' < w'.width → y' < w'.height → w.left + x ≡ w'.left + x' → w.top + y ≡ w'.top + y'
    → ((j : ℕ) → j < b → get_or s.target ((y * w.width + x) * b + j) 0 ≡ get_or s'.target ((y' * w'.width + x') * b + j) 0)
    × (bit s.map (y * w.width + x) ≡ bit s'.map (y' * w'.width + x'))
