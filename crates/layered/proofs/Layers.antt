-- The tiles of an accepted scan: their records and views, which are selected, and the layer that each gives. Assumes nothing.
use Prim.Native.Nat.{ℕ, ◌+◌, ◌≤◌, ◌<◌}
use mathlib.Core.Path.{◌≡◌, refl, ◌∙◌}
use mathlib.Core.List.{List}
use mathlib.Core.Bool.{true, false}
use native.Mathlib.Nat.{mul-one}
use native.Mathlib.Omega.{arith}
use borrow.Author.Tests.{lt-leb}
use Rattle.format.specs.Bytes.{biased}
use Rattle.format.specs.Choice.{asked_start, asked_layer}
use Rattle.format.specs.Scan.{Scan}
use Rattle.format.specs.Rules.{checks, verdict, tile_verdict}
use Rattle.format.specs.Directory.{tile_count}
use Rattle.format.specs.Checks.{Accepted}
use Rattle.format.specs.Entry.{dimensions_bad, dimension_count}
use Rattle.format.proofs.Firsts.{first-append}
use Rattle.format.specs.SubBlock.{attachment_place}
use Rattle.format.specs.Records.{tile_entry, tile_file, tile_position, extent_at, layers_of, pixels_span, attachment_span, tile_at, tile_record, tile_pixels}
use Rattle.entries.proofs.EntryLaws.{dimensions-ok, one-plane, several-planes}
use Rattle.subblocks.specs.Judged.{Filled}
use Rattle.judge.proofs.AcceptedFile.{tiled}
use Rattle.selection.specs.Select.{chooses}
use Rattle.selection.proofs.Starts.{selected-whole, selected-layer, asked-none, asked-some}
use Rattle.tiles.specs.FileTile.{entry_tile, file_tile}
use Rattle.layered.specs.Dimensions.{letter_of, start_of, size_of}
use Rattle.layered.specs.Claims.{LayersAt, LayersNone, Selecting, GivesLayer, AllTileLayers, AllAskedTiles}
use Rattle.layered.proofs.Places.{not-layered, single-size, layered-is, layers-stand}
use Rattle.layered.proofs.Selection.{selected-iff}
use Rattle.layered.proofs.Views.{data_is, gives-layer}

-- ---- the record and the view

-- a tile of an accepted scan is not refused
tile-accepted : (sc : Scan) (n : ℕ) → verdict sc ≡ Accepted → n < tile_count sc.file → tile_verdict sc n ≡ Accepted
unfolding tile_verdict verdict
tile-accepted sc n a h = rw (first-append (checks sc) _, a, lt-leb (tile_count sc.file) n h)

pub all-tile-layers : AllTileLayers
unfolding tile_record tile_at extent_at layers_of pixels_span attachment_span attachment_place tile_pixels
all-tile-layers sc a n h =
    let ds = sc.file in
    let e = tile_entry sc n in
    let f = ((tiled sc a).tile n h).filled in
    let d = f.agreed.placed.listed.dimensions in
    let view = data_is ds e (tile_file sc n) (tile_position sc n) f in
    record {
      record_none = λ o. rw (not-layered ds e o);
      record_some = λ k l. rw (layered-is ds e k l, layers-stand ds e k l d);
      view_is = rw (tile-accepted sc n a h);
      view_one = λ o. view ∙ rw (one-plane ds e (not-layered ds e o), mul-one);
      view_all = λ k l. view ∙ rw (several-planes ds e (layered-is ds e k l), layers-stand ds e k l d);
      behind = refl;
    }

-- ---- what a question selects, and gets

pub all-asked-tiles : AllAskedTiles
unfolding file_tile entry_tile tile_record tile_at
all-asked-tiles ch a n h = record {
  selected = selected-iff ch n right;
  within = among;
  starts_there = there;
  layer = λ c k l. gives c _ (asked-some ds e ch.starts (layered-is ds e k l) ∙ rw (layers-stand ds e k l right));
  one = λ c o. gives c 0 (asked-none ds e ch.starts (not-layered ds e o));
  rank_is = refl;
  gives_is = λ u v. refl;
}
  where
    ds : List ℕ
    ds = ch.scan.file

    e : ℕ
    e = tile_entry ch.scan n

    filled : Filled ds e (tile_file ch.scan n) (tile_position ch.scan n)
    filled = ((tiled ch.scan a).tile n h).filled

    right : dimensions_bad ds e ≡ false
    right = filled.agreed.placed.listed.dimensions

    among : chooses ch n ≡ true → (k : ℕ) → LayersAt ch.scan n k
        → (biased (start_of ds e k) ≤ asked_start ch.starts (letter_of ds e k)) × (asked_start ch.starts (letter_of ds e k) < biased (start_of ds e k) + size_of ds e k)
    among c k l =
        let is = layered-is ds e k l in
        let place = layers-stand ds e k l right in
        let asked = selected-layer ds ch.starts ch.any_scene e right c in
        let from = rw place at (asked.from is) in
        let below = rw (asked-some ds e ch.starts is, several-planes ds e is, place) at asked.below in
        (from, omega (arith, from, below))

    -- a letter without layers that selects has Size 1
    there : chooses ch n ≡ true → LayersNone ch.scan n → (k : ℕ) → k < dimension_count ds e → Selecting ch.any_scene (letter_of ds e k)
        → asked_start ch.starts (letter_of ds e k) ≡ biased (start_of ds e k)
    there c o k l s =
        let sized = (dimensions-ok ds e right).each k l in
        let range = (((selected-iff ch n right).0 c).starts (letter_of ds e k) sized.from-A sized.to-Z s).held k l refl in
        let few = single-size ds e k l o s.no-x s.no-y in
        omega (arith, range.0, range.1, few)

    gives : chooses ch n ≡ true → (l : ℕ) → asked_layer ds e ch.starts ≡ l → GivesLayer ch n l
    gives c l i =
        gives-layer ch n (selected-whole ds ch.starts ch.any_scene e c) filled l i
        (rw (← i) (selected-layer ds ch.starts ch.any_scene e right c).below)
