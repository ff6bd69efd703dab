-- The bytes of a tile: how many those of all layers are, where in the view those of one layer stand, and that a tile gives them. Assumes nothing.
use Prim.Native.Nat.{ℕ, ◌+◌, ◌*◌, ◌<◌}
use mathlib.Core.Path.{◌≡◌, sym, ap, ◌∙◌}
use mathlib.Core.List.{List}
use mathlib.Core.Bool.{false}
use native.Mathlib.Nat.{add-mul, mul_assoc, mul_comm}
use native.Mathlib.Omega.{arith}
use lib.Arith.{digits_lt}
use lib.ListN.{get_or}
use Rattle.format.specs.Choice.{Choice, asked_layer}
use Rattle.format.specs.Entry.{pixel_type, pixel_bytes, stored, letter_place, is_pyramid, layer_count}
use Rattle.format.specs.SubBlock.{data_size, layer_size, pixels_size, layer_pixels_place}
use Rattle.format.specs.Records.{tile_entry, tile_file, tile_position, extent_at, pixels_span, tile_at, tile_record}
use Rattle.subblocks.specs.Judged.{Filled}
use Rattle.subblocks.proofs.PartLaws.{filled_in, layer-ends}
use Rattle.tiles.specs.FileTile.{rectangle, entry_tile, file_tile}
use Rattle.tiles.proofs.Rectangles.{covered-at}
use Rattle.tiles.proofs.EntryTiles.{layer-whole}
use Rattle.layered.specs.Claims.{tile_column, tile_row, view_offset, GivesLayer}

-- ---- the bytes of all layers of a sub-block that is filled

-- a factor n between two others
between : (n a b : ℕ) → n * (a * b) ≡ a * n * b
between n a b = sym (mul_assoc n a b) ∙ rw (mul_comm n a)

-- DataSize has the number of layers as a factor
pub data_is : (ds : List ℕ) (e : ℕ) (bs : List ℕ) (q : ℕ) → Filled ds e bs q
    → data_size bs q ≡ stored ds (letter_place ds e 88) * stored ds (letter_place ds e 89) * layer_count ds e * pixel_bytes (pixel_type ds e)
unfolding pixels_size layer_size
data_is ds e bs q f = (filled_in ds e bs q f).size ∙ between (layer_count ds e) _ _

-- ---- offsets

-- byte j of the pixel in row r and column c of layer l, of layers with h rows of w pixels of b bytes
offset-is : (l h w b r c j : ℕ) → l * (h * w * b) + ((r * w + c) * b + j) ≡ ((l * h + r) * w + c) * b + j
offset-is l h w b r c j =
    let q : (l * h + r) * w + c ≡ l * (h * w) + (r * w + c) = omega (arith, add-mul (l * h) r w, mul_assoc l h w) in
    rw q (omega (arith, add-mul (l * (h * w)) (r * w + c) b, mul_assoc l (h * w) b))

-- ---- tile n, which is no pyramid tile

module _ (ch : Choice) (n : ℕ) (whole : is_pyramid ch.scan.file (tile_entry ch.scan n) ≡ false) where
  -- layer l begins behind those before it
  offset-of : (l u v j : ℕ)
      → l * layer_size ch.scan.file (tile_entry ch.scan n)
      + ((tile_row ch n v * (rectangle ch.scan.file (tile_entry ch.scan n)).width + tile_column ch n u)
      * pixel_bytes (pixel_type ch.scan.file (tile_entry ch.scan n)) + j)
      ≡ view_offset ch n l u v j
  unfolding tile_record tile_at extent_at rectangle
  offset-of l u v j = rw (layer-whole ch.scan.file (tile_entry ch.scan n) whole) (offset-is l _ _ _ (tile_row ch n v) (tile_column ch n u) j)

  -- it gives a layer that it has, where that is asked for
  pub gives-layer : Filled ch.scan.file (tile_entry ch.scan n) (tile_file ch.scan n) (tile_position ch.scan n) → (l : ℕ)
      → asked_layer ch.scan.file (tile_entry ch.scan n) ch.starts ≡ l → l < layer_count ch.scan.file (tile_entry ch.scan n)
      → GivesLayer ch n l
  unfolding file_tile entry_tile layer_pixels_place tile_record tile_at pixels_span
  gives-layer f l i b =
      let ds = ch.scan.file in
      let e = tile_entry ch.scan n in
      record {
        byte_is = λ u v j. let at = offset-of l u v j in rw i (ap (λ p. get_or (tile_file ch.scan n) p 0) (omega (arith, at)));
        inside = λ u v j c h.
            let at = covered-at (rectangle ds e) u v c in
            let pixel = digits_lt (digits_lt at.1 at.0) h in
            let own = rw (← layer-whole ds e whole) at pixel in
            let ends = layer-ends ds e (tile_file ch.scan n) (tile_position ch.scan n) f l b in
            rw (← offset-of l u v j) (omega (arith, own, ends));
      }
