-- What the row painter does to a row's stretch of the target and to the coverage map.
use Rattle.std.specs.Prelude.{◌≡◌, ℕ, ◌+◌, ◌*◌, ◌-◌, ◌^◌, ◌≤◌, ◌<◌, List, Bool, true, false, not, ◌&&◌, leb, ltb, length, get_or, Option, None, Some, IfSome}
use Rattle.plane.specs.Sums.{count}
use Rattle.plane.specs.Paint.{bit, paint, mark}
use Rattle.copies.specs.Copied.{copied}
use Rattle.paint.specs.declared.MaskLine.{MaskLine}
use Rattle.paint.specs.declared.Row.{Row}
use Rattle.paint.specs.declared.Turn.{Turn}
use Rattle.paint.specs.declared.Turn.TheVariants.{Plain, Quick}

-- ---- which pixels are given

-- pixel i of a row is valid: the mask's line has its column, and the column's bit is one; with no mask every pixel is
abbrev pub valid_behind : Option MaskLine → ℕ → Bool
valid_behind (Some k) i = ltb (k.column + i) k.columns && bit k.bits.now (k.column + i)
valid_behind None i = true

abbrev pub valid_at : Row → ℕ → Bool
valid_at row i = valid_behind row.mask i

-- a turn gives a valid pixel: the plain one always, the quick one where its map bit is still zero
abbrev pub gives_pixel : Turn → Bool → Bool → Bool
gives_pixel Plain valid set = valid
gives_pixel Quick valid set = valid && not set

-- pixel i of the row is given, the map being m when the row begins
abbrev pub row_gives : List ℕ → Row → ℕ → Bool
row_gives m row i = gives_pixel row.turn (valid_at row i) (bit m (row.first + i))

-- ---- a row of n pixels

-- a mask's line has the bits of its columns, and the columns of n pixels have numbers
pub record LineRoom (k : MaskLine) (n : ℕ) : Type 0 where
  pub bits : k.columns ≤ 8 * length k.bits.now
  pub columns : k.column + n < 2 ^ 64

pub record RowRoom (dst m : List ℕ) (row : Row) (n : ℕ) : Type 0 where
  pub bytes : 1 ≤ row.bytes
  pub target : n * row.bytes ≤ length dst
  pub source : n * row.bytes ≤ length row.pixels.now
  pub bits : row.first + n ≤ 8 * length m
  pub mask : IfSome row.mask (λ k. LineRoom k n)
  pub number : row.first + n < 2 ^ 64

-- the row's part of a turn: these pixels are given from the source, the valid ones' bits are set, nothing else changes, and the result is the number
-- of the given ones
pub record RowPainted (dst m : List ℕ) (row : Row) (n : ℕ) (dst' m' : List ℕ) (r : ℕ) : Type 0 where
  pub target : dst' ≡ paint n row.bytes (row_gives m row) (λ i j. get_or row.pixels.now (i * row.bytes + j) 0) dst
  pub map : m' ≡ mark (row.first + n) (λ p. leb row.first p && valid_at row (p - row.first)) m
  pub given : r ≡ count n (row_gives m row)

-- ---- a span of a row: its pixels from number i up to number j

-- the row has room for the pixels before j
pub record SpanRoom (dst m : List ℕ) (row : Row) (i j : ℕ) : Type 0 where
  pub order : i ≤ j
  pub room : RowRoom dst m row j

-- the bytes and the map bits of the span's pixels are there; `begin` follows from `order`
pub record SpanBytes (dst m : List ℕ) (row : Row) (i j : ℕ) : Type 0 where
  pub order : i ≤ j
  pub begin : i * row.bytes ≤ j * row.bytes
  pub target : j * row.bytes ≤ length dst
  pub source : j * row.bytes ≤ length row.pixels.now
  pub bits : row.first + j ≤ 8 * length m
  pub number : row.first + j < 2 ^ 64

-- the span's part of the row's
pub record SpanPainted (dst m : List ℕ) (row : Row) (i j : ℕ) (dst' m' : List ℕ) (r : ℕ) : Type 0 where
  pub target : dst' ≡ paint j row.bytes (λ p. leb i p && row_gives m row p) (λ p k. get_or row.pixels.now (p * row.bytes + k) 0) dst
  pub map : m' ≡ mark (row.first + j) (λ q. leb (row.first + i) q && valid_at row (q - row.first)) m
  pub given : r ≡ count (j - i) (λ k. row_gives m row (i + k))

-- the row's turn gives whichever of the span's pixels are valid: it is plain, or their map bits are zero
abbrev pub Open : List ℕ → Row → ℕ → ℕ → Type 0
Open m row i j = row.turn ≡ Quick → (p : ℕ) → i ≤ p → p < j → bit m (row.first + p) ≡ false

-- every pixel of the span is given
pub record SpanGiven (dst m : List ℕ) (row : Row) (i j : ℕ) (dst' m' : List ℕ) : Type 0 where
  pub target : dst' ≡ copied dst row.pixels.now (i * row.bytes) (j * row.bytes)
  pub map : m' ≡ mark (row.first + j) (λ q. leb (row.first + i) q) m

-- a step along the pixels from number i up to number j passes those before `next`, at least one
pub record Stepped (dst m : List ℕ) (row : Row) (i j : ℕ) (dst' m' : List ℕ) (next r : ℕ) : Type 0 where
  pub on : i < next
  pub end : next ≤ j
  pub painted : SpanPainted dst m row i next dst' m' r
