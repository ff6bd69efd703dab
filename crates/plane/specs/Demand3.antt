-- Demand 3: one claim about both composers' whole lists of turns, whichever tiles are selected.
use Rattle.std.specs.Prelude.{ℕ, ◌+◌, ◌*◌, ◌≤◌, ◌<◌, ◌≡◌, true, ltb, length, get_or}
use mathlib.Core.List.{List, Memᴰ}
use Rattle.plane.specs.Sums.{one, sum, count}
use Rattle.plane.specs.Tiles.{Tile, area, covered, within, sum_over}
use Rattle.plane.specs.Paint.{bit, ones}
use Rattle.plane.specs.Turns.{Kind, plain, quick, turn, start, order, compose, turn_tile, before, gave, added}
use Rattle.plane.specs.Demand2.{Room, Plane}
use Rattle.plane.specs.Cuts.{Line, Cuts, fore, rear, Proper, Halves, SamePixels}
use Rattle.plane.specs.declared.Rect.{Rect}

-- of the selected tiles ts, b bytes a pixel and the background pixel bg; w is a window, t and m are the lent target and map
pub record Demand3 (b : ℕ) (bg : List ℕ) (ts : List Tile) : Type 0 where
  -- a run has one turn for each selected tile, and no other
  pub each : (k : Kind)
      → (length (order k ts) ≡ length ts) × ((s : Tile) → Memᴰ s ts → Memᴰ s (order k ts)) × ((s : Tile) → Memᴰ s (order k ts) → Memᴰ s ts)
  -- bottom tile first: ranks rise along the plain one's turns; top tile first: they fall along the quick one's
  pub rises : (i j : ℕ) → i < j → j < length ts → (turn_tile plain ts i).rank < (turn_tile plain ts j).rank
  pub falls : (i j : ℕ) → i < j → j < length ts → (turn_tile quick ts j).rank < (turn_tile quick ts i).rank
  -- the first gets the start, each later one what the last left, and what the last leaves is the composer's answer
  pub turns : (k : Kind) (w : Rect) (t m : List ℕ)
      → (before k w b bg ts t m 0 ≡ start w b bg t m)
      × ((i : ℕ) → i < length ts → before k w b bg ts t m (i + 1) ≡ turn k w b (turn_tile k ts i) (before k w b bg ts t m i))
      × (before k w b bg ts t m (length ts) ≡ compose k w b bg ts t m)
  -- each makes demand 2's plane
  pub plane : (k : Kind) (w : Rect) (t m : List ℕ) → Room w b t m
      → let s = compose k w b bg ts t m in Plane w b bg ts t m s.target s.map
  -- demand 2 leaves no choice
  pub only : (w : Rect) (t m t₁ m₁ t₂ m₂ : List ℕ) → Room w b t m → Plane w b bg ts t m t₁ m₁ → Plane w b bg ts t m t₂ m₂ → (t₁ ≡ t₂) × (m₁ ≡ m₂)
  -- so the two agree
  pub agree : (w : Rect) (t m : List ℕ) → Room w b t m
      → let s = compose plain w b bg ts t m in let s' = compose quick w b bg ts t m in (s.target ≡ s'.target) × (s.map ≡ s'.map)
  -- the covered count of either is the number of window pixels that a tile gives
  pub covered-is : (k : Kind) (w : Rect) (t m : List ℕ) → Room w b t m → ones (area w) (compose k w b bg ts t m).map ≡ within w (covered ts)
  -- a pixel is covered from the first turn on that gives it: before turn i its map bit is one exactly when some turn before that gave it
  pub since : (k : Kind) (w : Rect) (t m : List ℕ) → Room w b t m → (i : ℕ) → i ≤ length ts → (p : ℕ) → p < area w
      → bit (before k w b bg ts t m i).map p ≡ ltb 0 (count i (λ j. gave k w b bg ts t m j p))
  -- the quick composer stores each pixel at most once: of all its turns as many give it as its map bit says in the end
  pub once : (w : Rect) (t m : List ℕ) → Room w b t m → (p : ℕ) → p < area w
      → let n = count (length ts) (λ i. gave quick w b bg ts t m i p) in
      (n ≡ one (bit (compose quick w b bg ts t m).map p)) × (n ≤ 1)
  -- each of its turns changes only pixels not yet covered: a pixel whose map bit is one when the turn comes keeps its bytes and its bit
  pub fresh : (w : Rect) (t m : List ℕ) → Room w b t m → (i : ℕ) → i < length ts → (p : ℕ) → p < area w
      → let s = before quick w b bg ts t m i in let s' = turn quick w b (turn_tile quick ts i) s in
      bit s.map p ≡ true
      → ((j : ℕ) → j < b → get_or s'.target (p * b + j) 0 ≡ get_or s.target (p * b + j) 0) × (bit s'.map p ≡ true)
  -- the store count of either composer is what its turns added
  pub stores : (k : Kind) (w : Rect) (t m : List ℕ) → (compose k w b bg ts t m).stored ≡ sum (length ts) (added k w b bg ts t m)
  -- the quick one's is the covered count
  pub quick_stores : (w : Rect) (t m : List ℕ) → Room w b t m
      → let s = compose quick w b bg ts t m in s.stored ≡ ones (area w) s.map
  -- the plain one's is the sum, over the selected tiles, of their unmasked pixels in the window
  pub plain_stores : (w : Rect) (t m : List ℕ) → (compose plain w b bg ts t m).stored ≡ sum_over ts (λ s. within w s.gives)
  -- refusal 20 refuses neither half, refusal 23 only where it refuses the whole, and each pixel lies in one half and not in the other
  pub halves : (l : Line) (w : Rect) → Cuts l w → Proper w → Halves l w
  -- each half has its own window, target and map. Whichever composer serves each of the three, pixels and map bits are the same at the same (u, v),
  -- and the halves' covered counts add up to the whole's.
  pub cut : (l : Line) (w : Rect) → Cuts l w → (k k₁ k₂ : Kind) (t m t₁ m₁ t₂ m₂ : List ℕ)
      → Room w b t m → Room (fore l w) b t₁ m₁ → Room (rear l w) b t₂ m₂
      → let s = compose k w b bg ts t m in let s₁ = compose k₁ (fore l w) b bg ts t₁ m₁ in let s₂ = compose k₂ (rear l w) b bg ts t₂ m₂ in
      SamePixels b w (fore l w) s s₁ × SamePixels b w (rear l w) s s₂
      × (ones (area w) s.map ≡ ones (area (fore l w)) s₁.map + ones (area (rear l w)) s₂.map)
