-- The two kinds of turn, the start, and the two composers' whole runs.
use Rattle.std.specs.Prelude.{ℕ, ◌+◌, List, [], ◌∷◌, reverse, Bool, true, false, cond, not, ◌&&◌, leb, get_or, take}
use Rattle.plane.specs.Sums.{count}
use Rattle.plane.specs.Tiles.{Tile, area, col_of, row_of, gives_at}
use Rattle.plane.specs.Paint.{bit, paint, mark, clear}
use Rattle.plane.specs.declared.Rect.{Rect}

-- ---- a turn

-- what a composer has painted so far: the lent target's bytes, the lent coverage map's, and the store count
pub record Painting : Type 0 where
  pub target : List ℕ
  pub map : List ℕ
  pub stored : ℕ

-- the two composers, and so the two kinds of turn
pub data Kind : Type 0 where
  plain quick : Kind

-- the pixels that a tile's turn gives, the coverage map being m. In the plain composer: all of its unmasked window pixels.
-- In the quick one: those whose map bit is still zero.
abbrev pub turn_gives : Kind → Rect → Tile → List ℕ → ℕ → Bool
turn_gives plain w t m p = gives_at w t p
turn_gives quick w t m p = gives_at w t p && not (bit m p)

-- their number
abbrev pub turn_adds : Kind → Rect → Tile → List ℕ → ℕ
turn_adds k w t m = count (area w) (turn_gives k w t m)

-- a tile's turn: gives these pixels, sets their bits, changes nothing else, and adds their number to the store count
unfoldable pub turn : Kind → Rect → ℕ → Tile → Painting → Painting
turn k w b t s = record {
  target = paint (area w) b (turn_gives k w t s.map) (λ p j. t.byte (col_of w p) (row_of w p) j) s.target;
  map = mark (area w) (turn_gives k w t s.map) s.map;
  stored = s.stored + turn_adds k w t s.map;
}

-- ---- after the start each composer paints only by its turns, one for each selected tile in its order

-- the start: the background pixel everywhere, a zero map and a count of 0, over the lent bytes t and m
unfoldable pub start : Rect → ℕ → List ℕ → List ℕ → List ℕ → Painting
start w b bg t m = record {
  target = paint (area w) b (λ p. true) (λ p j. get_or bg j 0) t;
  map = clear (area w) m;
  stored = 0;
}

-- the tile t lies below s: its rank is not the greater
unfoldable pub below : Tile → Tile → Bool
below t s = leb t.rank s.rank

-- the tiles by rank, the lowest first
unfoldable pub insert : Tile → List Tile → List Tile
insert t [] = t ∷ []
insert t (s ∷ ss) = cond (below t s) (t ∷ s ∷ ss) (s ∷ insert t ss)

unfoldable pub bottom_first : List Tile → List Tile
bottom_first [] = []
bottom_first (t ∷ ts) = insert t (bottom_first ts)

-- each composer's order: the plain one starts at the bottom and paints over, the quick one starts at the top
abbrev pub order : Kind → List Tile → List Tile
order plain ts = bottom_first ts
order quick ts = reverse (bottom_first ts)

-- the turns of a list of tiles: the first gets s, each later one what the last left
unfoldable pub run : Kind → Rect → ℕ → List Tile → Painting → Painting
run k w b [] s = s
run k w b (t ∷ ts) s = run k w b ts (turn k w b t s)

-- a composer's whole run over the selected tiles ts and the lent bytes t and m
abbrev pub compose : Kind → Rect → ℕ → List ℕ → List Tile → List ℕ → List ℕ → Painting
compose k w b bg ts t m = run k w b (order k ts) (start w b bg t m)

-- ---- the turns of a whole run, by number from 0

-- stands where there is no tile
abbrev pub no_tile : Tile
no_tile = record { rank = 0; gives = λ u v. false; byte = λ u v j. 0 }

-- the tile whose turn number i is
abbrev pub turn_tile : Kind → List Tile → ℕ → Tile
turn_tile k ts i = get_or (order k ts) i no_tile

-- the painting that turn i gets: what the first i turns leave of the start
unfoldable pub before : Kind → Rect → ℕ → List ℕ → List Tile → List ℕ → List ℕ → ℕ → Painting
before k w b bg ts t m i = run k w b (take i (order k ts)) (start w b bg t m)

-- turn i gives pixel p: the pixel is stored from its tile
abbrev pub gave : Kind → Rect → ℕ → List ℕ → List Tile → List ℕ → List ℕ → ℕ → ℕ → Bool
gave k w b bg ts t m i p = turn_gives k w (turn_tile k ts i) (before k w b bg ts t m i).map p

-- what turn i adds to the store count
abbrev pub added : Kind → Rect → ℕ → List ℕ → List Tile → List ℕ → List ℕ → ℕ → ℕ
added k w b bg ts t m i = turn_adds k w (turn_tile k ts i) (before k w b bg ts t m i).map
