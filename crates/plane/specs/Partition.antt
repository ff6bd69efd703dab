-- A box of the plane parted into windows, and that counts over the parts add up.
use Rattle.std.specs.Prelude.{ℕ, ◌+◌, ◌≡◌, List, [], ◌∷◌, ◌++◌, Bool}
use Rattle.plane.specs.Sums.{one}
use Rattle.plane.specs.Tiles.{covers, within}
use Rattle.plane.specs.Cuts.{Line, Cuts, fore, rear}
use Rattle.plane.specs.declared.Rect.{Rect}

-- how many of the windows cover the plane pixel (u, v)
unfoldable pub cover_count : List Rect → ℕ → ℕ → ℕ
cover_count [] u v = 0
cover_count (w ∷ ws) u v = one (covers w u v) + cover_count ws u v

-- the windows part the box: each pixel of the box lies in exactly one of them, and no other pixel lies in any
abbrev pub Partition : Rect → List Rect → Type 0
Partition box ws = (u v : ℕ) → cover_count ws u v ≡ one (covers box u v)

-- a box is parted by itself; and the parts of its two halves, where a straight line cuts it, part it
abbrev pub Cutting : Type 0
Cutting =
    ((box : Rect) → Partition box (box ∷ []))
    × ((l : Line) (box : Rect) → Cuts l box → (fs rs : List Rect) → Partition (fore l box) fs → Partition (rear l box) rs → Partition box (fs ++ rs))

-- how many pixels of the windows pass a test, window by window
unfoldable pub within_all : List Rect → (ℕ → ℕ → Bool) → ℕ
within_all [] f = 0
within_all (w ∷ ws) f = within w f + within_all ws f

-- the counts of a box's parts add up, whatever is counted
abbrev pub AddsUp : Type 0
AddsUp = (box : Rect) (ws : List Rect) → Partition box ws → (f : ℕ → ℕ → Bool) → within box f ≡ within_all ws f
