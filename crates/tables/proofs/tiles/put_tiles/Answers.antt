-- `tables::tiles::put_tiles` meets its contract.
use Rattle.judge.proofs.AcceptedFile.{accepted-under, accepted-long, accepted-entries}
use Rattle.judge.proofs.EntryLoop.{at-fixed}
use Rattle.tables.proofs.Filling.{tiles-start, tiles-at, tiles-room, tiles-next, tiles-end, tiles-all}
use Rattle.tables.proofs.tiles.put_tiles.Goals as goal

pub first_entry-e-requires : goal.first_entry-e-requires
first_entry-e-requires c = search (accepted-under, accepted-long, accepted-entries)

pub loop-k-init : goal.loop-k-init
loop-k-init c = search tiles-start

pub put_tile-requires : goal.put_tile-requires
put_tile-requires c = search (tiles-at, tiles-room)

pub next_entry-e-requires : goal.next_entry-e-requires
next_entry-e-requires c = search (accepted-under, at-fixed, tiles-all)

pub loop-k-preserved : goal.loop-k-preserved
loop-k-preserved c = search tiles-next

pub shape_of-numbers : goal.shape_of-numbers
shape_of-numbers c = c.loop-k.invariant.numbers-are.size_is

pub shape_of-starts : goal.shape_of-starts
shape_of-starts c = c.loop-k.invariant.starts-are.size_is

pub returns : goal.returns
returns c = search tiles-end
