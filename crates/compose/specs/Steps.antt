-- The steps of composing: a selection in a table, the keys of the tiles that take a turn, and the turns along them.
use Rattle.std.specs.Prelude.{ℕ, zero, suc, ◌+◌, ◌%◌, ◌^◌, ◌≤◌, ◌<◌, ◌≡◌, List, [], map, reverse, Bool, true, false, cond, not, length, get_or, take, eqb, ℤ}
use Rattle.format.specs.Scan.{Scan, scan_of, block_file}
use Rattle.format.specs.Choice.{Choice, asked_layer}
use Rattle.format.specs.Checks.{Verdict, Accepted}
use Rattle.format.specs.Entry.{pixel_type, pixel_bytes, file_position, is_pyramid}
use Rattle.format.specs.Directory.{tile_count, entry_place}
use Rattle.format.specs.Rules.{verdict, AcceptedFile}
use Rattle.format.specs.declared.Release.{Release}
use Rattle.plane.specs.Tiles.{Tile, area}
use Rattle.plane.specs.Paint.{ones}
use Rattle.plane.specs.Turns.{Painting, Kind, plain, quick, run, start, compose}
use Rattle.plane.specs.Demand2.{Room}
use Rattle.paint.specs.declared.Turn.{Turn}
use Rattle.plane.specs.declared.Rect.{Rect}
use Rattle.keys.specs.Keys.{insert_key, Rising}
use Rattle.subblocks.specs.Judged.{Listed}
use Rattle.tiles.specs.FileTile.{rank_of, rectangle, meets, file_tile, tiles_below}
use Rattle.tiles.specs.Painted.{PaintRoom, Painted}
use Rattle.selection.specs.Select.{selects}
use Rattle.selection.specs.Layer.{HasAskedLayer}
use Rattle.question.specs.Call.{Asked, call_verdict}
use Rattle.question.specs.declared.WindowRequest.{WindowRequest}
use Rattle.question.specs.declared.Counts.{Counts}

-- ---- a selection: a table that has for each entry its place where it is chosen, else 0

abbrev pub chosen_in : List ℕ → ℕ → Bool
chosen_in table k = not (eqb (get_or table k 0) 0)

-- a table over an accepted file: no pyramid tile is chosen
pub record Chosen (bs table : List ℕ) : Type 0 where
  pub accepted : AcceptedFile bs
  pub size : length table ≡ 4096
  pub place : (k : ℕ) → k < tile_count bs → chosen_in table k ≡ true → get_or table k 0 ≡ entry_place bs k
  pub whole : (k : ℕ) → k < tile_count bs → chosen_in table k ≡ true → is_pyramid bs (entry_place bs k) ≡ false

-- a window whose edges fit
pub record Edges (w : Rect) : Type 0 where
  pub right : w.left + w.width < 2 ^ 33
  pub bottom : w.top + w.height < 2 ^ 33

-- ---- keys

-- entry k takes a turn: it is chosen, and its tile meets the window
abbrev pub takes_turn : List ℕ → List ℕ → Rect → ℕ → Bool
takes_turn bs table w k = cond (chosen_in table k) (meets (rectangle bs (entry_place bs k)) w) false

-- the ranks of the tiles below n that take a turn, rising
unfoldable pub keys_below : ℕ → List ℕ → List ℕ → Rect → List ℕ
keys_below zero bs table w = []
keys_below (suc n) bs table w = cond (takes_turn bs table w n) (insert_key (rank_of bs n (entry_place bs n)) (keys_below n bs table w)) (keys_below n bs table w)

-- the first r of the keys are those of the entries below n
pub record Gathered (n : ℕ) (bs table : List ℕ) (w : Rect) (keys : List ℕ) (r : ℕ) : Type 0 where
  pub size : length keys ≡ 4096
  pub few : r ≤ n
  pub keys_are : take r keys ≡ keys_below n bs table w

-- one entry more: it stands at e, which is 0 where it is not chosen, and its number k is above those of the keys that are there
pub record AddRoom (bs keys : List ℕ) (count k e : ℕ) (w : Rect) : Type 0 where
  pub size : length keys ≡ 4096
  pub few : count ≤ k
  pub number : k < 4096
  pub rising : Rising (take count keys)
  pub listed : (e ≡ 0 → ⊥) → Listed bs e
  pub edges : Edges w

pub record Added (bs keys : List ℕ) (count k e : ℕ) (w : Rect) (keys' : List ℕ) (r : ℕ) : Type 0 where
  pub size : length keys' ≡ 4096
  pub most : r ≤ count + 1
  pub keys_are : take r keys' ≡ cond (cond (not (eqb e 0)) (meets (rectangle bs e) w) false) (insert_key (rank_of bs k e) (take count keys)) (take count keys)

-- ---- turns

-- the tile of a key: its entry number is the key's remainder by 4,096
abbrev pub tile_of_key : Choice → ℕ → Tile
tile_of_key ch key = file_tile ch (key % 4096)

-- where its entry stands
abbrev pub key_place : List ℕ → ℕ → ℕ
key_place table key = get_or table (key % 4096) 0

-- what its turn may read and write
pub record KeyRoom (t m : List ℕ) (sc : Scan) (starts : List ℤ) (table : List ℕ) (key : ℕ) (on : Bool) (w : Rect) : Type 0 where
  pub size : length table ≡ 4096
  pub asked : HasAskedLayer sc.file (key_place table key) starts
  pub paint : PaintRoom t m sc.file (key_place table key) (block_file sc (key_place table key)) (file_position sc.file (key_place table key))
      (asked_layer sc.file (key_place table key) starts) sc.release on w

-- what its turn does
pub record KeyPainted (t m : List ℕ) (sc : Scan) (starts : List ℤ) (table : List ℕ) (key : ℕ) (on : Bool) (w : Rect) (by : Turn) (t' m' : List ℕ) (r : ℕ)
    : Type 0 where
  pub painted : Painted t m sc.file (key_place table key) (block_file sc (key_place table key)) (file_position sc.file (key_place table key))
      (asked_layer sc.file (key_place table key) starts) sc.release on w by t' m' r

-- the tiles in the order of each kind's turns, along rising keys
abbrev pub turn_order : Kind → List Tile → List Tile
turn_order plain l = l
turn_order quick l = reverse l

-- every chosen tile has the layer that the starts ask for
abbrev pub HasAskedLayers : List ℕ → List ℤ → List ℕ → Type 0
HasAskedLayers bs starts table = (k : ℕ) → k < tile_count bs → chosen_in table k ≡ true → HasAskedLayer bs (entry_place bs k) starts

-- a key of an entry of the file whose tile takes a turn
pub record TurnKey (bs table : List ℕ) (w : Rect) (n key : ℕ) : Type 0 where
  pub within : key % 4096 < n
  pub turn : takes_turn bs table w (key % 4096) ≡ true

-- what the turns along these keys may read and write: the table is a selection of the file's entries, every tile that takes a turn has the asked type and
-- layer, and the window has room
pub record RunRoom (t m : List ℕ) (sc : Scan) (starts : List ℤ) (table keys : List ℕ) (w : Rect) (pixel : ℕ) : Type 0 where
  pub accepted : verdict sc ≡ Accepted
  pub chosen : Chosen sc.file table
  pub asked : HasAskedLayers sc.file starts table
  pub few : length keys ≤ 4096
  pub key : (i : ℕ) → i < length keys → TurnKey sc.file table w (tile_count sc.file) (get_or keys i 0)
  pub edges : Edges w
  pub room : Room w (pixel_bytes pixel) t m
  pub small : area w ≤ 4294967296
  pub typed : (k : ℕ) → k < tile_count sc.file → takes_turn sc.file table w k ≡ true → pixel_type sc.file (entry_place sc.file k) ≡ pixel

-- target, map and store count after the turns of the keys' tiles, one after the other
pub record RunDone (k : Kind) (t m : List ℕ) (ch : Choice) (keys : List ℕ) (w : Rect) (pixel : ℕ) (t' m' : List ℕ) (r : ℕ) : Type 0 where
  pub run_is : ◌≡◌ {A = Painting} (record { target = t'; map = m'; stored = r })
      (run k w (pixel_bytes pixel) (map (tile_of_key ch) keys) (record { target = t; map = m; stored = 0 }))

-- ---- the whole of painting an accepted selection

-- what painting may read and write: a selection whose tiles have the asked layer and, where they meet the window, the asked type, and lent bytes with room
pub record PlaneRoom (t m : List ℕ) (sc : Scan) (starts : List ℤ) (table background : List ℕ) (w : Rect) (pixel : ℕ) : Type 0 where
  pub accepted : verdict sc ≡ Accepted
  pub chosen : Chosen sc.file table
  pub asked : HasAskedLayers sc.file starts table
  pub edges : Edges w
  pub room : Room w (pixel_bytes pixel) t m
  pub small : area w ≤ 4294967296
  pub background_fits : length background ≡ pixel_bytes pixel
  pub typed : (k : ℕ) → k < tile_count sc.file → takes_turn sc.file table w k ≡ true → pixel_type sc.file (entry_place sc.file k) ≡ pixel

-- the start: background, a zero map and a count of 0
pub record Begun (t m background : List ℕ) (w : Rect) (pixel : ℕ) (t' m' : List ℕ) : Type 0 where
  pub start_is : ◌≡◌ {A = Painting} (record { target = t'; map = m'; stored = 0 }) (start w (pixel_bytes pixel) background t m)

pub record PlaneDone (k : Kind) (t m : List ℕ) (ch : Choice) (table background : List ℕ) (w : Rect) (pixel : ℕ) (t' m' : List ℕ) (r : Counts) : Type 0 where
  pub painting : ◌≡◌ {A = Painting} (record { target = t'; map = m'; stored = r.stored })
      (compose k w (pixel_bytes pixel) background (tiles_below (tile_count ch.scan.file) ch (chosen_in table)) t m)
  pub covered-is : r.covered ≡ ones (area w) m'

-- ---- the whole of refusing: where it accepts, the table holds what the question's starts select

abbrev pub asked : List ℕ → Release → List ℤ → Bool → WindowRequest → List ℕ → Asked
asked bs rel starts any_scene f background = record { scan = scan_of bs rel; starts = starts; any_scene = any_scene; request = f; background = background }

-- the starts select entry k
abbrev pub starts_select : List ℕ → List ℤ → Bool → ℕ → Bool
starts_select bs starts any_scene k = selects bs starts any_scene (entry_place bs k)

-- the table chooses as the starts do
pub record Selects (bs : List ℕ) (starts : List ℤ) (any_scene : Bool) (table : List ℕ) : Type 0 where
  pub table_is : Chosen bs table
  pub as_asked : (k : ℕ) → k < tile_count bs → chosen_in table k ≡ starts_select bs starts any_scene k

-- all the rows
pub record ExamineAnswered (a : Asked) (target map : ℕ) (table : List ℕ) (r : Verdict) : Type 0 where
  pub verdict-is : r ≡ call_verdict a target map
  pub selects_so : r ≡ Accepted → Selects a.scan.file a.starts a.any_scene table
