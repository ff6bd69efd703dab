-- Demand 2's plane: each pixel is that of the topmost tile that gives it, or the background. It is stated with no order of painting and no turn.
use Rattle.std.specs.Prelude.{ℕ, ◌+◌, ◌*◌, ◌/◌, ◌≤◌, ◌<◌, ◌≡◌, true, false, length, get_or}
use mathlib.Core.List.{List, Memᴰ}
use Rattle.plane.specs.Tiles.{Tile, area}
use Rattle.plane.specs.Paint.{bit}
use Rattle.plane.specs.declared.Rect.{Rect}

-- t is the topmost of the tiles ts that give the plane pixel (u, v)
pub record Top (ts : List Tile) (u v : ℕ) (t : Tile) : Type 0 where
  pub chosen : Memᴰ t ts
  pub gives : t.gives u v ≡ true
  pub highest : (s : Tile) → Memᴰ s ts → s.gives u v ≡ true → s.rank ≤ t.rank

-- none of the tiles gives it
abbrev pub None : List Tile → ℕ → ℕ → Type 0
None ts u v = (s : Tile) → Memᴰ s ts → s.gives u v ≡ false

-- the window has a pixel, a pixel has a byte, and the lent target t and map m are not too short (refusal 22)
pub record Room (w : Rect) (b : ℕ) (t m : List ℕ) : Type 0 where
  pub wide : 1 ≤ w.width
  pub high : 1 ≤ w.height
  pub bytes : 1 ≤ b
  pub target : area w * b ≤ length t
  pub map : area w ≤ 8 * length m

-- what target t and map m hold after composing the tiles ts, where t₀ and m₀ were lent
pub record Plane (w : Rect) (b : ℕ) (bg : List ℕ) (ts : List Tile) (t₀ m₀ t m : List ℕ) : Type 0 where
  pub target-length : length t ≡ length t₀
  pub map-length : length m ≡ length m₀
  -- a pixel that a tile gives: the bytes of the topmost such tile, and its map bit is one
  pub given : (x y : ℕ) → x < w.width → y < w.height → (s : Tile) → Top ts (w.left + x) (w.top + y) s
      → ((j : ℕ) → j < b → get_or t ((y * w.width + x) * b + j) 0 ≡ s.byte (w.left + x) (w.top + y) j) × (bit m (y * w.width + x) ≡ true)
  -- a pixel that no tile gives: the background, and its map bit is zero
  pub uncovered : (x y : ℕ) → x < w.width → y < w.height → None ts (w.left + x) (w.top + y)
      → ((j : ℕ) → j < b → get_or t ((y * w.width + x) * b + j) 0 ≡ get_or bg j 0) × (bit m (y * w.width + x) ≡ false)
  -- unused bits of the map's last byte are zero
  pub unused : (p : ℕ) → area w ≤ p → p < 8 * ((area w + 7) / 8) → bit m p ≡ false
  -- what is written of the map are bytes
  pub byte : (k : ℕ) → 8 * k < area w → get_or m k 0 < 256
  -- lent bytes past what is written stay
  pub target_past : (k : ℕ) → area w * b ≤ k → get_or t k 0 ≡ get_or t₀ k 0
  pub map-past : (k : ℕ) → area w ≤ 8 * k → get_or m k 0 ≡ get_or m₀ k 0
