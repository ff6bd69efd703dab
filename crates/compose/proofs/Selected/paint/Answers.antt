-- `compose::Selected::paint` meets its contract.
use mathlib.Core.Path.{refl, sym}
use Rattle.compose.proofs.WholeRun.{keys-few, taken, plain-room, quick-room, quick-done, plain_done}
use Rattle.compose.proofs.Selected.paint.Goals as goal

pub slice_bounds-keys-end : goal.slice_bounds-keys-end
slice_bounds-keys-end c = keys-few c.requires c.begin.ensures _ c.tile_count.ensures c.gather-count.ensures

pub slice_bounds-keys-end-2 : goal.slice_bounds-keys-end-2
slice_bounds-keys-end-2 c = sym (taken c.requires c.begin.ensures _ c.tile_count.ensures c.gather-count.ensures)

pub paint_keys-stored-requires : goal.paint_keys-stored-requires
paint_keys-stored-requires c = quick-room c.requires c.begin.ensures _ c.tile_count.ensures c.gather-count.ensures _ c.reverse.ensures.after

pub paint_keys-stored-requires-in-Plain : goal.paint_keys-stored-requires-in-Plain
paint_keys-stored-requires-in-Plain c = plain-room c.requires c.begin.ensures _ c.tile_count.ensures c.gather-count.ensures _ refl

pub returns-in-Quick : goal.returns-in-Quick
returns-in-Quick c =
    quick-done c.requires c.begin.ensures _ c.tile_count.ensures c.gather-count.ensures _ _ _ c.in-Quick.is c.reverse.ensures.after c.paint_keys-stored.ensures

pub returns-in-Plain : goal.returns-in-Plain
returns-in-Plain c =
    plain_done c.requires c.begin.ensures _ c.tile_count.ensures c.gather-count.ensures _ _ _ _ c.in-Plain.is refl c.paint_keys-stored-in-Plain.ensures
    c.count_ones-covered.ensures
