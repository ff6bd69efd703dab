-- What is claimed of the tiles of an accepted scan (paper 02, Req 10): the record, the view, which tiles a question's starts select, and the bytes of the layer
-- that they ask for; and that of a tile without layers view, selection and bytes are as paper 01 has them. `proofs/Layers` proves it.
use Rattle.std.specs.Prelude.{ℕ, ◌+◌, ◌-◌, ◌*◌, ◌^◌, ◌≤◌, ◌<◌, ◌≡◌, ◌↔◌, Bool, true, not, ◌&&◌, ◌||◌, Some, None, get_or}
use Rattle.format.specs.Bytes.{biased, signed32}
use Rattle.format.specs.Scan.{Scan}
use Rattle.format.specs.Choice.{Choice, asked_start}
use Rattle.format.specs.Entry.{dimension_count, pixel_bytes}
use Rattle.format.specs.Directory.{tile_count}
use Rattle.format.specs.Rules.{verdict}
use Rattle.format.specs.Records.{tile_entry, tile_file, tile_record, tile_pixels}
use Rattle.format.specs.Checks.{Accepted}
use Rattle.selection.specs.Select.{chooses}
use Rattle.plane.specs.Tiles.{covers}
use Rattle.tiles.specs.FileTile.{rank_of, rectangle, unmasked, file_tile}
use Rattle.layered.specs.Dimensions.{letter_of, start_of, size_of, HasLayers, LacksLayers}

-- ---- the record and the view of tile n

abbrev pub LayersAt : Scan → ℕ → ℕ → Type 0
LayersAt sc n k = HasLayers sc.file (tile_entry sc n) k

abbrev pub LayersNone : Scan → ℕ → Type 0
LayersNone sc n = LacksLayers sc.file (tile_entry sc n)

pub record TileLayers (sc : Scan) (n : ℕ) : Type 0 where
  -- the letter, start and size of the dimension that has layers, if one has
  pub record_none : LayersNone sc n → (tile_record sc n).layers ≡ None
  pub record_some : (k : ℕ) → LayersAt sc n k
      → (tile_record sc n).layers
      ≡ Some (record {
        letter = letter_of sc.file (tile_entry sc n) k;
        start = signed32 (start_of sc.file (tile_entry sc n) k);
        size = size_of sc.file (tile_entry sc n) k;
      })
  -- the view has the bytes of all layers, pyramid tiles too, and the attachment stands right behind it
  pub view_is : tile_pixels sc n ≡ (tile_record sc n).pixels
  pub view_one : LayersNone sc n
      → (tile_record sc n).pixels.length ≡ (tile_record sc n).x.stored * (tile_record sc n).y.stored * pixel_bytes (tile_record sc n).pixel_type
  pub view_all : (k : ℕ) → LayersAt sc n k
      → (tile_record sc n).pixels.length
      ≡ (tile_record sc n).x.stored * (tile_record sc n).y.stored * size_of sc.file (tile_entry sc n) k * pixel_bytes (tile_record sc n).pixel_type
  pub behind : (tile_record sc n).attachment.start ≡ (tile_record sc n).pixels.start + (tile_record sc n).pixels.length

-- ---- which tiles are selected

-- the letter x selects: it is not X, Y or M, nor S where S may be any
pub record Selecting (any_scene : Bool) (x : ℕ) : Type 0 where
  pub no-x : x ≡ 88 → ⊥
  pub no-y : x ≡ 89 → ⊥
  pub no-m : x ≡ 77 → ⊥
  pub no-s : any_scene ≡ true → x ≡ 83 → ⊥

-- tile n has the start that is asked for the letter x: where dimension k has that letter it lies in start .. start + Size − 1, and where none has it is 0
pub record StartHeld (ch : Choice) (n x : ℕ) : Type 0 where
  pub held : (k : ℕ) → k < dimension_count ch.scan.file (tile_entry ch.scan n) → letter_of ch.scan.file (tile_entry ch.scan n) k ≡ x
      → (biased (start_of ch.scan.file (tile_entry ch.scan n) k) ≤ asked_start ch.starts x)
      × (asked_start ch.starts x
      < biased (start_of ch.scan.file (tile_entry ch.scan n) k) + size_of ch.scan.file (tile_entry ch.scan n) k)
  pub lacking : ((k : ℕ) → k < dimension_count ch.scan.file (tile_entry ch.scan n) → letter_of ch.scan.file (tile_entry ch.scan n) k ≡ x → ⊥)
      → asked_start ch.starts x ≡ 2 ^ 31

pub record Selected (ch : Choice) (n : ℕ) : Type 0 where
  -- no pyramid tile
  pub x_whole : (tile_record ch.scan n).x.stored ≡ (tile_record ch.scan n).x.size
  pub y_whole : (tile_record ch.scan n).y.stored ≡ (tile_record ch.scan n).y.size
  pub starts : (x : ℕ) → 65 ≤ x → x ≤ 90 → Selecting ch.any_scene x → StartHeld ch n x

-- ---- the bytes of a selected tile

-- column and row in the tile of the plane pixel (u, v)
abbrev pub tile_column : Choice → ℕ → ℕ → ℕ
tile_column ch n u = u - (rectangle ch.scan.file (tile_entry ch.scan n)).left

abbrev pub tile_row : Choice → ℕ → ℕ → ℕ
tile_row ch n v = v - (rectangle ch.scan.file (tile_entry ch.scan n)).top

-- how far into the view byte j of the pixel (u, v) of layer l stands: layer by layer, row by row
abbrev pub view_offset : Choice → ℕ → ℕ → ℕ → ℕ → ℕ → ℕ
view_offset ch n l u v j =
    ((l * (tile_record ch.scan n).y.size + tile_row ch n v) * (tile_record ch.scan n).x.size + tile_column ch n u)
    * pixel_bytes (tile_record ch.scan n).pixel_type + j

-- byte i of the view of tile n
abbrev pub view_byte : Choice → ℕ → ℕ → ℕ
view_byte ch n i = get_or (tile_file ch.scan n) ((tile_record ch.scan n).pixels.start + i) 0

-- the tile gives layer l, and each of its bytes lies in the view
pub record GivesLayer (ch : Choice) (n l : ℕ) : Type 0 where
  pub byte_is : (u v j : ℕ) → (file_tile ch n).byte u v j ≡ view_byte ch n (view_offset ch n l u v j)
  pub inside : (u v j : ℕ) → covers (rectangle ch.scan.file (tile_entry ch.scan n)) u v ≡ true → j < pixel_bytes (tile_record ch.scan n).pixel_type
      → view_offset ch n l u v j < (tile_record ch.scan n).pixels.length

pub record AskedTile (ch : Choice) (n : ℕ) : Type 0 where
  pub selected : (chooses ch n ≡ true) ↔ Selected ch n
  -- of a selected tile the start that is asked for the letter of its layers is one of theirs
  pub within : chooses ch n ≡ true → (k : ℕ) → LayersAt ch.scan n k
      → (biased (start_of ch.scan.file (tile_entry ch.scan n) k) ≤ asked_start ch.starts (letter_of ch.scan.file (tile_entry ch.scan n) k))
      × (asked_start ch.starts (letter_of ch.scan.file (tile_entry ch.scan n) k)
      < biased (start_of ch.scan.file (tile_entry ch.scan n) k) + size_of ch.scan.file (tile_entry ch.scan n) k)
  -- without layers it starts, in each of its letters that selects, where the question says
  pub starts_there : chooses ch n ≡ true → LayersNone ch.scan n → (k : ℕ) → k < dimension_count ch.scan.file (tile_entry ch.scan n)
      → Selecting ch.any_scene (letter_of ch.scan.file (tile_entry ch.scan n) k)
      → asked_start ch.starts (letter_of ch.scan.file (tile_entry ch.scan n) k) ≡ biased (start_of ch.scan.file (tile_entry ch.scan n) k)
  -- it gives the layer asked − start; without layers, all of its pixels
  pub layer : chooses ch n ≡ true → (k : ℕ) → LayersAt ch.scan n k
      → GivesLayer ch n
      (asked_start ch.starts (letter_of ch.scan.file (tile_entry ch.scan n) k) - biased (start_of ch.scan.file (tile_entry ch.scan n) k))
  pub one : chooses ch n ≡ true → LayersNone ch.scan n → GivesLayer ch n 0
  -- only the layer enters: rank and pixels are those of the entry, its rectangle and its one mask, whatever the starts are
  pub rank_is : (file_tile ch n).rank ≡ rank_of ch.scan.file n (tile_entry ch.scan n)
  pub gives_is : (u v : ℕ)
      → (file_tile ch n).gives u v
      ≡ (covers (rectangle ch.scan.file (tile_entry ch.scan n)) u v
      && (not ch.masks || unmasked (tile_file ch.scan n) (tile_record ch.scan n).mask (tile_column ch n u) (tile_row ch n v)))

-- ---- all of it

abbrev pub AllTileLayers : Type 0
AllTileLayers = (sc : Scan) → verdict sc ≡ Accepted → (n : ℕ) → n < tile_count sc.file → TileLayers sc n

abbrev pub AllAskedTiles : Type 0
AllAskedTiles = (ch : Choice) → verdict ch.scan ≡ Accepted → (n : ℕ) → n < tile_count ch.scan.file → AskedTile ch n
