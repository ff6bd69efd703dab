-- Selection: which entries a question selects by its starts.
-- The starts are those of the letters A to Z, in that order: a start that is not given is 0, what is past Z is ignored.
use Rattle.std.specs.Prelude.{ℕ, ◌+◌, ◌^◌, List, [], ◌∷◌, Bool, true, false, cond, ◌&&◌, eqb, leb, ltb, ℤ}
use Rattle.format.specs.Bytes.{any_of, any_below, all_below, biased}
use Rattle.format.specs.Choice.{Choice, asked_start}
use Rattle.format.specs.Records.{tile_entry}
use Rattle.format.specs.Entry.{dimension_count, start, size, has_letter, letter_place, is_pyramid}

-- the start of the tile of the entry at e, plus 2 ^ 31: a letter that the tile lacks counts as 0
unfoldable pub tile_start : List ℕ → ℕ → ℕ → ℕ
tile_start bs e x = cond (any_below (dimension_count bs e) (has_letter bs e x)) (biased (start bs (letter_place bs e x))) (2 ^ 31)

-- X (88), Y (89) and M (77) select nothing, nor does S (83) where it is "any"
unfoldable pub free : Bool → ℕ → Bool
free any_scene x = any_of (eqb x 88 ∷ eqb x 89 ∷ eqb x 77 ∷ cond any_scene (eqb x 83) false ∷ [])

-- how many starts the tile has in that letter: its Size, which in an accepted file is 1 but for X, Y and layers; 1 where the tile lacks it
unfoldable pub start_count : List ℕ → ℕ → ℕ → ℕ
start_count bs e x = cond (any_below (dimension_count bs e) (has_letter bs e x)) (size bs (letter_place bs e x)) 1

-- the tile has the question's start for that letter: it lies in start .. start + Size − 1
unfoldable pub has_start : List ℕ → ℕ → List ℤ → Bool → ℕ → Bool
has_start bs e starts any_scene x =
    cond (free any_scene x) true
    (leb (tile_start bs e x) (asked_start starts x) && ltb (asked_start starts x) (tile_start bs e x + start_count bs e x))

-- a selected tile: no pyramid tile, and in each other letter but M it has the question's start: it starts there, or has that layer
unfoldable pub selects : List ℕ → List ℤ → Bool → ℕ → Bool
selects bs starts any_scene e = cond (is_pyramid bs e) false (all_below 26 (λ i. has_start bs e starts any_scene (65 + i)))

-- entry k of the scan is chosen
abbrev pub chooses : Choice → ℕ → Bool
chooses ch k = selects ch.scan.file ch.starts ch.any_scene (tile_entry ch.scan k)
