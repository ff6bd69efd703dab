-- What the steps of filling rest on and promise: one tile's row, one dimension's, the rows of one tile's dimensions.
use Rattle.std.specs.Prelude.{ℕ, ◌*◌, ◌≤◌, ◌<◌, ◌≡◌, List, length, ℤ, pos}
use Rattle.format.specs.Scan.{Scan}
use Rattle.format.specs.Entry.{dimension_place}
use Rattle.format.specs.Directory.{tile_count, entry_place}
use Rattle.format.specs.Records.{tile_record, dimension_at}
use Rattle.format.specs.declared.Dimension.{Dimension}
use Rattle.tables.specs.Numbers.{tile_numbers, tile_starts, dimension_numbers, dimension_starts}
use Rattle.tables.specs.Rows.{Stretch, Rows}

-- the entry of tile k stands at e of the file bs
pub record TileAt (bs : List ℕ) (k e : ℕ) : Type 0 where
  pub below : k < tile_count bs
  pub place : e ≡ entry_place bs k

-- these arrays have room for n rows of w numbers and v signed ones
pub record RowRoom (w v n : ℕ) (numbers : List ℕ) (starts : List ℤ) : Type 0 where
  pub numbers_fit : w * n ≤ length numbers
  pub starts_fit : v * n ≤ length starts

-- the record of tile k is put
pub record TilePut (sc : Scan) (k : ℕ) (numbers₀ : List ℕ) (starts₀ : List ℤ) (numbers : List ℕ) (starts : List ℤ) : Type 0 where
  pub numbers-are : Stretch 0 (24 * k) 24 (tile_numbers (tile_record sc k)) numbers₀ numbers
  pub starts-are : Stretch (pos 0) (4 * k) 4 (tile_starts (tile_record sc k)) starts₀ starts

-- the record of dimension j of tile k, the same under every release
abbrev pub dimension_of : List ℕ → ℕ → ℕ → Dimension
dimension_of bs k j = dimension_at bs (dimension_place (entry_place bs k) j)

-- it is put in row r
pub record DimensionPut (bs : List ℕ) (k j r : ℕ) (numbers₀ : List ℕ) (starts₀ : List ℤ) (numbers : List ℕ) (starts : List ℤ) : Type 0 where
  pub numbers-are : Stretch 0 (5 * r) 5 (dimension_numbers k (dimension_of bs k j)) numbers₀ numbers
  pub starts-are : Stretch (pos 0) (1 * r) 1 (dimension_starts (dimension_of bs k j)) starts₀ starts

-- the records of the first c dimensions of tile k are put in the rows from r on
pub record DimensionsPut (bs : List ℕ) (k c r : ℕ) (numbers₀ : List ℕ) (starts₀ : List ℤ) (numbers : List ℕ) (starts : List ℤ) : Type 0 where
  pub numbers-are : Rows 0 5 r c (λ j. dimension_numbers k (dimension_of bs k j)) numbers₀ numbers
  pub starts-are : Rows (pos 0) 1 r c (λ j. dimension_starts (dimension_of bs k j)) starts₀ starts
