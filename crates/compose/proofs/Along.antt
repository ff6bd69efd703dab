-- The turns along the keys are the composer's whole run over the chosen tiles: those that do not meet the window are passed over. Assumes nothing.
use Prim.Native.Nat.{ℕ, ◌≤◌, ◌<◌}
use mathlib.Core.Path.{◌≡◌, sym, ap, ◌∙◌}
use mathlib.Core.List.{List, map}
use mathlib.Core.Bool.{false}
use native.Mathlib.Omega.{arith}
use Rattle.format.specs.Choice.{Choice}
use Rattle.format.specs.Directory.{entry_place}
use Rattle.format.specs.Records.{tile_entry, tile_file, tile_position}
use Rattle.plane.specs.Tiles.{Tile, area, gives_at}
use Rattle.plane.specs.Turns.{Kind, run, start, compose}
use Rattle.plane.specs.Demand2.{Room}
use Rattle.plane.proofs.Skip.{Apart, skip-compose}
use Rattle.plane.specs.declared.Rect.{Rect}
use Rattle.tiles.specs.FileTile.{meets, rectangle, file_tile, tiles_below}
use Rattle.tiles.proofs.Rectangles.{gives_none}
use Rattle.question.proofs.Ranks.{tiles-entry, tiles-ranked}
use Rattle.compose.specs.Steps.{chosen_in, takes_turn, keys_below, tile_of_key, turn_order}
use Rattle.compose.proofs.KeyTiles.{key-tiles, turn-tiles, turn-order, meets_window, file-meets}

-- a tile of an entry that does not meet the window gives none of its pixels
apart-entry : (ch : Choice) (w : Rect) (k : ℕ) → meets (rectangle ch.scan.file (entry_place ch.scan.file k)) w ≡ false → 1 ≤ w.width
    → (p : ℕ) → p < area w → gives_at w (file_tile ch k) p ≡ false
unfolding file_tile
apart-entry ch w k e h p l =
    gives_none ch.scan.file ch.masks _ k (tile_entry ch.scan k) (tile_file ch.scan k) (tile_position ch.scan k) ch.scan.release w e h p l

module _ (ch : Choice) (table : List ℕ) (w : Rect) where
  apart : (n : ℕ) → n ≤ 4096 → 1 ≤ w.width → Apart w (meets_window ch table w) (tiles_below n ch (chosen_in table))
  apart n h wide t i e p l =
      let j = tiles-entry ch (chosen_in table) n i in
      let few = j.below in
      let off : meets (rectangle ch.scan.file (entry_place ch.scan.file j.number)) w ≡ false =
      sym (file-meets ch table w j.number (omega arith)) ∙ ap (meets_window ch table w) (sym j.tile) ∙ e in
      ap (λ (s : Tile). gives_at w s p) j.tile ∙ apart-entry ch w j.number off wide p l

  pub along : (k : Kind) (b : ℕ) (bg t m : List ℕ) (n : ℕ) → n ≤ 4096 → Room w b t m
      → run k w b (turn_order k (map (tile_of_key ch) (keys_below n ch.scan.file table w))) (start w b bg t m)
      ≡ compose k w b bg (tiles_below n ch (chosen_in table)) t m
  along k b bg t m n h r =
      ap (λ (l : List Tile). run k w b (turn_order k l) (start w b bg t m)) (key-tiles ch table w n h)
      ∙ ap (λ (l : List Tile). run k w b l (start w b bg t m)) (turn-order k (tiles_below n ch (takes_turn ch.scan.file table w)))
      ∙ ap (λ (l : List Tile). compose k w b bg l t m) (turn-tiles ch table w n h)
      ∙ sym (
      skip-compose w b (meets_window ch table w) k bg (tiles_below n ch (chosen_in table)) t m (tiles-ranked ch (chosen_in table) n h) r
      (apart n h r.wide)
      )
