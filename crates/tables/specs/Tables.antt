-- Every record of a file in two lent arrays: of its tiles, and of its tiles' dimensions.
use Rattle.std.specs.Prelude.{ℕ, zero, suc, ◌+◌, ◌*◌, ◌≤◌, ◌<◌, ◌≡◌, List, [], ◌∷◌, ◌++◌, Bool, Result, Err, length, get_or, ℤ, pos, ltb}
use Rattle.format.specs.Scan.{Scan}
use Rattle.format.specs.Bytes.{any_of}
use Rattle.format.specs.Checks.{Verdict, Accepted, row, first}
use Rattle.format.specs.Entry.{dimension_count}
use Rattle.format.specs.Directory.{tile_count, entry_place}
use Rattle.format.specs.Rules.{checks}
use Rattle.format.specs.Records.{tile_record, dimension_record}
use Rattle.format.specs.Answers.{ValueAnswered}
use Rattle.format.specs.declared.Fault.TheVariants as Fault
use Rattle.format.specs.declared.Refusal.{Refusal}
use Rattle.format.specs.declared.Dimension.{Dimension}
use Rattle.tables.specs.Numbers.{tile_numbers, tile_starts, dimension_numbers, dimension_starts}
use Rattle.tables.specs.Rows.{Rows}

-- ---- the verdict: the file's, then 22 where an array is too short

-- arrays of these lengths are too short for n rows of w numbers and v signed ones
unfoldable pub short : ℕ → ℕ → ℕ → ℕ → ℕ → Bool
short n w v numbers starts = any_of (ltb numbers (w * n) ∷ ltb starts (v * n) ∷ [])

abbrev pub table_verdict : Scan → Bool → Verdict
table_verdict sc tooShort = first (checks sc ++ (row Fault.LentTooShort 0 tooShort ∷ []))

-- the arrays, which held numbers₀ and starts₀, by the verdict v: as they were where it refuses; `full` says what they hold where it accepts
pub record Arrays (v : Verdict) (full : Type 0) (numbers₀ : List ℕ) (starts₀ : List ℤ) (numbers : List ℕ) (starts : List ℤ) : Type 0 where
  pub refused : (e : Refusal) → v ≡ Err e → (numbers ≡ numbers₀) × (starts ≡ starts₀)
  pub accepted : v ≡ Accepted → full

-- the answer r: v, and how many rows were filled, 0 where v refuses
abbrev pub TableAnswered : Verdict → ℕ → Result ℕ Refusal → Type 0
TableAnswered v rows r = ValueAnswered 0 v rows r

-- ---- tiles: 24 numbers and 4 signed ones a tile, in directory order

unfoldable pub tiles_verdict : Scan → ℕ → ℕ → Verdict
tiles_verdict sc numbers starts = table_verdict sc (short (tile_count sc.file) 24 4 numbers starts)

pub record TileTable (sc : Scan) (numbers₀ : List ℕ) (starts₀ : List ℤ) (numbers : List ℕ) (starts : List ℤ) : Type 0 where
  pub numbers-are : Rows 0 24 0 (tile_count sc.file) (λ k. tile_numbers (tile_record sc k)) numbers₀ numbers
  pub starts-are : Rows (pos 0) 4 0 (tile_count sc.file) (λ k. tile_starts (tile_record sc k)) starts₀ starts

abbrev pub TileArrays : Scan → List ℕ → List ℤ → List ℕ → List ℤ → Type 0
TileArrays sc numbers₀ starts₀ numbers starts =
    Arrays (tiles_verdict sc (length numbers₀) (length starts₀)) (TileTable sc numbers₀ starts₀ numbers starts) numbers₀ starts₀ numbers starts

-- ---- dimensions: 5 numbers and a signed one a dimension, tile by tile

-- how many dimensions the tiles below n have: the first of tile n has that row
unfoldable pub dimensions_below : List ℕ → ℕ → ℕ
dimensions_below bs zero = 0
dimensions_below bs (suc n) = dimensions_below bs n + dimension_count bs (entry_place bs n)

abbrev pub dimension_total : Scan → ℕ
dimension_total sc = dimensions_below sc.file (tile_count sc.file)

unfoldable pub dimensions_verdict : Scan → ℕ → ℕ → Verdict
dimensions_verdict sc numbers starts = table_verdict sc (short (dimension_total sc) 5 1 numbers starts)

-- the rows of the dimensions of the tiles below n, `numbered k j` that of dimension j of tile k
pub record Groups {A : Type 0} (none : A) (w : ℕ) (bs : List ℕ) (n : ℕ) (numbered : ℕ → ℕ → List A) (before after : List A) : Type 0 where
  pub size_is : length after ≡ length before
  pub row_is : (k j i : ℕ) → k < n → j < dimension_count bs (entry_place bs k) → i < w
      → get_or after (w * (dimensions_below bs k + j) + i) none ≡ get_or (numbered k j) i none
  pub past : (x : ℕ) → w * dimensions_below bs n ≤ x → get_or after x none ≡ get_or before x none

-- `dimension k j` is the record of dimension j of tile k
pub record DimensionTable (bs : List ℕ) (dimension : ℕ → ℕ → Dimension) (n : ℕ) (numbers₀ : List ℕ) (starts₀ : List ℤ) (numbers : List ℕ) (starts : List ℤ)
    : Type 0 where
  pub numbers-are : Groups 0 5 bs n (λ k j. dimension_numbers k (dimension k j)) numbers₀ numbers
  pub starts-are : Groups (pos 0) 1 bs n (λ k j. dimension_starts (dimension k j)) starts₀ starts

abbrev pub DimensionArrays : Scan → List ℕ → List ℤ → List ℕ → List ℤ → Type 0
DimensionArrays sc numbers₀ starts₀ numbers starts =
    Arrays (dimensions_verdict sc (length numbers₀) (length starts₀))
    (DimensionTable sc.file (dimension_record sc) (tile_count sc.file) numbers₀ starts₀ numbers starts)
    numbers₀ starts₀ numbers starts
