-- The loops that fill lent arrays with the records of an accepted file. Assumes nothing.
use Prim.Native.Nat.{ℕ, zero, suc, ◌+◌, ◌*◌, ◌^◌, ◌≤◌, ◌<◌}
use mathlib.Core.Path.{◌≡◌, refl, sym, ap, ◌∙◌}
use mathlib.Core.List.{List}
use mathlib.Core.Bool.{Bool, false}
use native.Mathlib.Nat.{zero-add, one-mul, mul-le-mul}
use native.Mathlib.Omega.{arith}
use lib.ListN.{length}
use lib.IntN.{ℤ, pos}
use borrow.Author.Tests.{ltb-false}
use Rattle.format.specs.Scan.{scan_of}
use Rattle.format.specs.Entry.{dimension_count, dimension_place, next_entry, file_position}
use Rattle.format.specs.Directory.{tile_count, entry_place}
use Rattle.format.specs.Rules.{verdict, AcceptedFile}
use Rattle.format.specs.Records.{tile_at, tile_record, dimension_at, dimension_record}
use Rattle.format.specs.declared.Release.{Release}
use Rattle.format.specs.Checks.{Accepted}
use Rattle.format.specs.declared.Tile.{Tile}
use Rattle.format.specs.declared.Dimension.{Dimension}
use Rattle.entries.proofs.EntryLaws.{dimension-within}
use Rattle.format.proofs.Below.{none}
use Rattle.subblocks.specs.Judged.{Judged}
use Rattle.judge.proofs.AcceptedFile.{tiled, tiled-file}
use Rattle.judge.proofs.EntryLoop.{AtEntry, at-start, at_next}
use Rattle.tables.specs.Numbers.{tile_numbers, tile_starts, dimension_numbers, dimension_starts}
use Rattle.tables.specs.Rows.{Stretch, Rows}
use Rattle.tables.specs.Tables.{short, dimensions_below, TileTable, DimensionTable}
use Rattle.tables.specs.Steps.{TileAt, RowRoom, TilePut, dimension_of, DimensionPut, DimensionsPut}
use Rattle.tables.proofs.RowLaws.{rows_none, rows_more, groups_none, groups-more, below_next, below-rises}

-- a row's width times a number of rows
pub product-fits : (w n : ℕ) → w ≤ 24 → n ≤ 65536 → w * n < 2 ^ 64
product-fits w n h l = let m : w * n ≤ 24 * 65536 = mul-le-mul h l in omega arith

-- ---- one tile

-- what may be read of the entry of tile k, at e
module _ (bs : List ℕ) (k e : ℕ) (t : TileAt bs k e) where
  module _ (a : AcceptedFile bs) where
    pub tile-entry : next_entry bs e ≤ length bs
    tile-entry = rw t.place ((tiled-file bs a).listed k t.below).entry

    pub tile-few : k < 4096
    tile-few = omega (arith, t.below, (tiled-file bs a).few)

    -- of its dimension j
    module _ (j : ℕ) (l : j < dimension_count bs e) where
      dimension-whole : dimension_place e j + 20 ≤ length bs
      dimension-whole = omega (arith, tile-entry, dimension-within bs e j l)

      pub dimension-small : dimension_place e j < 2 ^ 64
      dimension-small = omega (arith, dimension-whole, (tiled-file bs a).small)

      pub dimension-in : (p : ℕ) → p ≡ dimension_place e j → p + 20 ≤ length bs
      dimension-in p f = rw f dimension-whole

  -- its record r, under the release rel, is put
  module _ (rel : Release) where
    pub tile-judged : (q : ℕ) → verdict (scan_of bs rel) ≡ Accepted → q ≡ file_position bs e → Judged bs e bs q rel
    tile-judged q a f = rw (f, t.place) ((tiled (scan_of bs rel) a).tile k t.below)

    -- its numbers, and its signed ones, as the rows that are put
    pub tile-put : (q : ℕ) (r : Tile) (row : List ℕ) (from : List ℤ) {numbers₀ numbers : List ℕ} {starts₀ starts : List ℤ}
        → q ≡ file_position bs e → r ≡ tile_at k bs e bs q rel → row ≡ tile_numbers r → from ≡ tile_starts r
        → ((none : ℕ) → Stretch none (24 * k) (length row) row numbers₀ numbers)
        → ((none : ℤ) → Stretch none (4 * k) (length from) from starts₀ starts) → TilePut (scan_of bs rel) k numbers₀ starts₀ numbers starts
    unfolding tile_record tile_numbers tile_starts
    tile-put q r row from f g h i m n =
        let is : r ≡ tile_record (scan_of bs rel) k = g ∙ rw (f, t.place) in
        record { numbers-are = rw (h, is) at (m 0); starts-are = rw (i, is) at (n (pos 0)) }

  -- the record d of its dimension j as the rows that were put
  module _ (j : ℕ) where
    pub dimension-put : (p r : ℕ) (d : Dimension) (row : List ℕ) (from : List ℤ) {numbers₀ numbers : List ℕ} {starts₀ starts : List ℤ}
        → p ≡ dimension_place e j → d ≡ dimension_at bs p → row ≡ dimension_numbers k d → from ≡ dimension_starts d
        → ((none : ℕ) → Stretch none (5 * r) (length row) row numbers₀ numbers) → ((none : ℤ) → Stretch none r (length from) from starts₀ starts)
        → DimensionPut bs k j r numbers₀ starts₀ numbers starts
    unfolding dimension_numbers dimension_starts
    dimension-put p r d row from f g h i m n =
        let is : d ≡ dimension_of bs k j = g ∙ rw (f, t.place) in
        record { numbers-are = rw (h, is) at (m 0); starts-are = rw (one-mul r) (rw (i, is) at (n (pos 0))) }

-- ---- the loop over the tiles: the records of those below k are put, and the next entry is at e

pub record TilesFilling (bs : List ℕ) (rel : Release) (n e k : ℕ) (numbers₀ : List ℕ) (starts₀ : List ℤ) (numbers : List ℕ) (starts : List ℤ) : Type 0 where
  pub at : AtEntry bs n e k
  pub numbers-are : Rows 0 24 0 k (λ i. tile_numbers (tile_record (scan_of bs rel) i)) numbers₀ numbers
  pub starts-are : Rows (pos 0) 4 0 k (λ i. tile_starts (tile_record (scan_of bs rel) i)) starts₀ starts

module _ (bs : List ℕ) (rel : Release) (n : ℕ) (numbers₀ : List ℕ) (starts₀ : List ℤ) where
  pub tiles-start : (e : ℕ) → e ≡ entry_place bs 0 → TilesFilling bs rel n e 0 numbers₀ starts₀ numbers₀ starts₀
  tiles-start e f = record { at = at-start bs n e f; numbers-are = rows_none _ _ _ _ _; starts-are = rows_none _ _ _ _ _ }

  module _ (e k : ℕ) (numbers : List ℕ) (starts : List ℤ) (w : TilesFilling bs rel n e k numbers₀ starts₀ numbers starts) where
    pub tiles-at : n ≡ tile_count bs → k < n → TileAt bs k e
    tiles-at f l = record { below = omega arith; place = w.at.place }

    pub tiles-all : n ≡ tile_count bs → n ≤ tile_count bs
    tiles-all f = omega arith

    pub tiles-room : RowRoom 24 4 n numbers₀ starts₀ → k < n → RowRoom 24 4 (k + 1) numbers starts
    tiles-room r l = record {
      numbers_fit = omega (arith, r.numbers_fit, w.numbers-are.size_is);
      starts_fit = omega (arith, r.starts_fit, w.starts-are.size_is);
    }

    pub tiles-next : (q : ℕ) (numbers' : List ℕ) (starts' : List ℤ) → k < n → q ≡ next_entry bs e → TilePut (scan_of bs rel) k numbers starts numbers' starts'
        → TilesFilling bs rel n q (k + 1) numbers₀ starts₀ numbers' starts'
    tiles-next q numbers' starts' l f p = record {
      at = at_next bs n e k w.at q l f;
      numbers-are = rows_more 0 24 0 _ numbers₀ k numbers numbers' w.numbers-are (rw (zero-add k) p.numbers-are);
      starts-are = rows_more (pos 0) 4 0 _ starts₀ k starts starts' w.starts-are (rw (zero-add k) p.starts-are);
    }

    pub tiles-end : n ≡ tile_count bs → n ≤ k → TileTable (scan_of bs rel) numbers₀ starts₀ numbers starts
    tiles-end f h =
        let m : k ≡ tile_count bs = omega (arith, w.at.count) in
        record { numbers-are = rw m at w.numbers-are; starts-are = rw m at w.starts-are }

-- ---- the loop over the dimensions of tile k: those below j are put, from row r on

module _ (bs : List ℕ) (k r : ℕ) (numbers₀ : List ℕ) (starts₀ : List ℤ) where
  pub dimensions-start : DimensionsPut bs k 0 r numbers₀ starts₀ numbers₀ starts₀
  dimensions-start = record { numbers-are = rows_none _ _ _ _ _; starts-are = rows_none _ _ _ _ _ }

  module _ (j : ℕ) (numbers : List ℕ) (starts : List ℤ) (w : DimensionsPut bs k j r numbers₀ starts₀ numbers starts) where
    pub dimensions-room : (c : ℕ) → RowRoom 5 1 (r + c) numbers₀ starts₀ → j < c → RowRoom 5 1 (r + j + 1) numbers starts
    dimensions-room c room l = record {
      numbers_fit = omega (arith, room.numbers_fit, w.numbers-are.size_is);
      starts_fit = omega (arith, room.starts_fit, w.starts-are.size_is);
    }

    pub dimensions-next : (numbers' : List ℕ) (starts' : List ℤ) → DimensionPut bs k j (r + j) numbers starts numbers' starts'
        → DimensionsPut bs k (j + 1) r numbers₀ starts₀ numbers' starts'
    dimensions-next numbers' starts' p = record {
      numbers-are = rows_more 0 5 r _ numbers₀ j numbers numbers' w.numbers-are p.numbers-are;
      starts-are = rows_more (pos 0) 1 r _ starts₀ j starts starts' w.starts-are p.starts-are;
    }

    pub dimensions-end : (c : ℕ) → j ≤ c → c ≤ j → DimensionsPut bs k c r numbers₀ starts₀ numbers starts
    dimensions-end c h l = let e : j ≡ c = omega arith in rw e at w

-- ---- how many dimensions there are

pub below-most : (bs : List ℕ) → AcceptedFile bs → (n : ℕ) → n ≤ tile_count bs → dimensions_below bs n ≤ 16 * n
unfolding dimensions_below
below-most bs a zero h = omega arith
below-most bs a (suc n) h =
    omega (arith, below-most bs a n (omega arith), ((tiled-file bs a).listed n (omega arith)).few)

-- ---- the loop over the tiles: the dimensions of those below k are put, r of them, and the next entry is at e

pub record DimensionsFilling (bs : List ℕ) (n e r k : ℕ) (numbers₀ : List ℕ) (starts₀ : List ℤ) (numbers : List ℕ) (starts : List ℤ) : Type 0 where
  pub at : AtEntry bs n e k
  pub row_is : r ≡ dimensions_below bs k
  pub few : r ≤ 65536
  pub rows : DimensionTable bs (dimension_of bs) k numbers₀ starts₀ numbers starts

module _ (bs : List ℕ) (n : ℕ) (numbers₀ : List ℕ) (starts₀ : List ℤ) where
  pub groups-start : (e : ℕ) → e ≡ entry_place bs 0 → DimensionsFilling bs n e 0 0 numbers₀ starts₀ numbers₀ starts₀
  unfolding dimensions_below
  groups-start e f = record {
    at = at-start bs n e f;
    row_is = refl;
    few = omega arith;
    rows = record { numbers-are = groups_none _ _ _ _ _; starts-are = groups_none _ _ _ _ _ };
  }

  module _ (e r k : ℕ) (numbers : List ℕ) (starts : List ℤ) (w : DimensionsFilling bs n e r k numbers₀ starts₀ numbers starts)
      (a : AcceptedFile bs) (f : n ≡ tile_count bs) (l : k < n) where
    pub groups-all : n ≤ tile_count bs
    groups-all = omega arith

    pub groups-at : TileAt bs k e
    groups-at = record { below = omega arith; place = w.at.place }

    module _ (c : ℕ) (h : c ≡ dimension_count bs e) where
      next_row : r + c ≡ dimensions_below bs (k + 1)
      next_row = omega (arith, w.row_is, below_next bs k, h, ap (dimension_count bs) w.at.place)

      pub groups-few : r + c ≤ 65536
      groups-few = omega (arith, next_row, below-most bs a (k + 1) (omega arith), (tiled-file bs a).few)

      pub groups-room : RowRoom 5 1 (dimensions_below bs n) numbers₀ starts₀ → RowRoom 5 1 (r + c) numbers starts
      groups-room room =
          let m = below-rises bs (k + 1) n (omega arith) in
          record {
            numbers_fit = omega (arith, m, next_row, room.numbers_fit, w.rows.numbers-are.size_is);
            starts_fit = omega (arith, m, next_row, room.starts_fit, w.rows.starts-are.size_is);
          }

      pub groups-next : (q : ℕ) (numbers' : List ℕ) (starts' : List ℤ) → q ≡ next_entry bs e → DimensionsPut bs k c r numbers starts numbers' starts'
          → DimensionsFilling bs n q (r + c) (k + 1) numbers₀ starts₀ numbers' starts'
      groups-next q numbers' starts' g p =
          let i : c ≡ dimension_count bs (entry_place bs k) = h ∙ ap (dimension_count bs) w.at.place in
          record {
            at = at_next bs n e k w.at q l g;
            row_is = next_row;
            few = groups-few;
            rows = record {
              numbers-are = groups-more bs 0 5 _ numbers₀ k numbers numbers' w.rows.numbers-are (rw (i, w.row_is) at p.numbers-are);
              starts-are = groups-more bs (pos 0) 1 _ starts₀ k starts starts' w.rows.starts-are (rw (i, w.row_is) at p.starts-are);
            };
          }

  pub groups-end : (e r k : ℕ) (numbers : List ℕ) (starts : List ℤ) → DimensionsFilling bs n e r k numbers₀ starts₀ numbers starts → n ≤ k
      → DimensionTable bs (dimension_of bs) n numbers₀ starts₀ numbers starts
  groups-end e r k numbers starts w h = let m : k ≡ n = omega (arith, w.at.count) in rw m at w.rows

-- ---- the loop that counts them

pub record Counting (bs : List ℕ) (n e total k : ℕ) : Type 0 where
  pub at : AtEntry bs n e k
  pub total-is : total ≡ dimensions_below bs k

module _ (bs : List ℕ) (n : ℕ) where
  pub counting-start : (e : ℕ) → e ≡ entry_place bs 0 → Counting bs n e 0 0
  unfolding dimensions_below
  counting-start e f = record { at = at-start bs n e f; total-is = refl }

  module _ (e total k : ℕ) (w : Counting bs n e total k) where
    module _ (a : AcceptedFile bs) (f : n ≡ tile_count bs) where
      pub counting-all : n ≤ tile_count bs
      counting-all = omega arith

      pub counting-few : total ≤ 65536
      counting-few = omega (arith, w.total-is, w.at.count, below-most bs a k (omega (arith, w.at.count)), (tiled-file bs a).few)

    pub counting-next : (c q : ℕ) → k < n → c ≡ dimension_count bs e → q ≡ next_entry bs e → Counting bs n q (total + c) (k + 1)
    counting-next c q l h g = record {
      at = at_next bs n e k w.at q l g;
      total-is = omega (arith, w.total-is, below_next bs k, h, ap (dimension_count bs) w.at.place);
    }

    pub counting-end : n ≤ k → total ≡ dimensions_below bs n
    counting-end h = let m : k ≡ n = omega (arith, w.at.count) in rw m at w.total-is

-- ---- arrays that are not too short have room for the rows

short-no : (b : Bool) (n w v : ℕ) (numbers : List ℕ) (starts : List ℤ) → b ≡ short n w v (length numbers) (length starts) → b ≡ false
    → RowRoom w v n numbers starts
unfolding short
short-no b n w v numbers starts f h = record {
  numbers_fit = ltb-false _ _ (none _ (sym f ∙ h) 0);
  starts_fit = ltb-false _ _ (none _ (sym f ∙ h) 1);
}

-- there are n tiles
module _ (bs : List ℕ) (n : ℕ) (f : n ≡ tile_count bs) where
  pub tiles-few : AcceptedFile bs → n ≤ 65536
  tiles-few a = omega (arith, (tiled-file bs a).few)

  module _ (b : Bool) (x y : ℕ) (h : b ≡ short n 24 4 x y) where
    pub tiles-short : b ≡ short (tile_count bs) 24 4 x y
    tiles-short = rw (← f) h

  pub tiles-enough : (b : Bool) (numbers : List ℕ) (starts : List ℤ) → b ≡ short n 24 4 (length numbers) (length starts) → b ≡ false
      → RowRoom 24 4 n numbers starts
  tiles-enough b numbers starts h t = short-no b n 24 4 numbers starts h t

  -- and r dimensions
  pub total-rows : (rel : Release) {numbers₀ numbers : List ℕ} {starts₀ starts : List ℤ} → DimensionTable bs (dimension_of bs) n numbers₀ starts₀ numbers starts
      → DimensionTable bs (dimension_record (scan_of bs rel)) (tile_count bs) numbers₀ starts₀ numbers starts
  unfolding dimension_record
  total-rows rel d = rw f at d

  module _ (r : ℕ) (g : (r ≡ dimensions_below bs n) × (r ≤ 65536)) where
    pub total-is : r ≡ dimensions_below bs (tile_count bs)
    total-is = g.0 ∙ ap (dimensions_below bs) f

    pub total-short : (b : Bool) (x y : ℕ) → b ≡ short r 5 1 x y → b ≡ short (dimensions_below bs (tile_count bs)) 5 1 x y
    total-short b x y h = rw (← total-is) h

    pub total-enough : (b : Bool) (numbers : List ℕ) (starts : List ℤ) → b ≡ short r 5 1 (length numbers) (length starts) → b ≡ false
        → RowRoom 5 1 (dimensions_below bs n) numbers starts
    total-enough b numbers starts h t = rw g.0 at (short-no b r 5 1 numbers starts h t)
