-- What a composer sees: selected tiles and a window.
-- A plane coordinate is a natural number: the signed one of the file, plus 2^31.
use Rattle.std.specs.Prelude.{ℕ, ◌+◌, ◌*◌, ◌/◌, ◌%◌, ◌≡◌, Bool, false, ◌&&◌, ◌||◌, leb, ltb}
use mathlib.Core.List.{List, [], ◌∷◌, Memᴰ}
use Rattle.plane.specs.Sums.{one, sum}
use Rattle.plane.specs.declared.Rect.{Rect}

-- ---- tiles

-- A selected tile. `rank`: the tile of greater rank lies on top. It is made of M (no M below every M) and then of the entry number.
-- `gives u v`: the tile covers the plane pixel (u, v) and is unmasked there. `byte u v j`: byte j of the pixel that it has there.
pub record Tile : Type 0 where
  pub rank : ℕ
  pub gives : ℕ → ℕ → Bool
  pub byte : ℕ → ℕ → ℕ → ℕ

-- no two of the tiles have the same rank: two entries never have
abbrev pub Ranked : List Tile → Type 0
Ranked [] = Unit {0}
Ranked (t ∷ ts) = ((s : Tile) → Memᴰ s ts → t.rank ≡ s.rank → ⊥) × Ranked ts

-- some tile gives the plane pixel (u, v)
unfoldable pub covered : List Tile → ℕ → ℕ → Bool
covered [] u v = false
covered (t ∷ ts) u v = t.gives u v || covered ts u v

-- ---- a rectangle of the plane: the window, or where a tile lies

-- a rectangle covers the plane pixel (u, v), masks aside, when column and row are at least 0 and under width and height
unfoldable pub covers : Rect → ℕ → ℕ → Bool
covers a u v = (leb a.left u && ltb u (a.left + a.width)) && (leb a.top v && ltb v (a.top + a.height))

-- how many pixels it has; they are numbered row by row: (x, y) of the window is number y * width + x
abbrev pub area : Rect → ℕ
area w = w.height * w.width

-- the plane coordinates of pixel number p
abbrev pub col_of : Rect → ℕ → ℕ
col_of w p = w.left + p % w.width

abbrev pub row_of : Rect → ℕ → ℕ
row_of w p = w.top + p / w.width

-- pixel number p is one of the tile's unmasked window pixels
abbrev pub gives_at : Rect → Tile → ℕ → Bool
gives_at w t p = t.gives (col_of w p) (row_of w p)

-- ---- counts

-- how many pixels of the window pass a test of plane pixels
unfoldable pub within : Rect → (ℕ → ℕ → Bool) → ℕ
within w f = sum w.height (λ y. sum w.width (λ x. one (f (w.left + x) (w.top + y))))

-- the sum over the tiles
unfoldable pub sum_over : List Tile → (Tile → ℕ) → ℕ
sum_over [] f = 0
sum_over (t ∷ ts) f = f t + sum_over ts f
