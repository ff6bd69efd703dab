-- `tables::dimensions::put_dimensions` meets its contract.
use Rattle.judge.proofs.AcceptedFile.{accepted-long, accepted-entries}
use Rattle.judge.proofs.EntryLoop.{at-fixed}
use Rattle.tables.proofs.Filling.{groups-start, groups-all, groups-at, groups-few, groups-room, groups-next, groups-end}
use Rattle.tables.proofs.dimensions.put_dimensions.Goals as goal

pub first_entry-e-requires : goal.first_entry-e-requires
first_entry-e-requires c = search (accepted-long, accepted-entries)

pub loop-k-init : goal.loop-k-init
loop-k-init c = search groups-start

pub dimension_count-c-requires : goal.dimension_count-c-requires
dimension_count-c-requires c = search (at-fixed, groups-all)

pub put_dimensions_of-requires : goal.put_dimensions_of-requires
put_dimensions_of-requires c = search (groups-at, groups-few, groups-room)

pub next_entry-e-requires : goal.next_entry-e-requires
next_entry-e-requires c = search (at-fixed, groups-all)

pub loop-k-preserved : goal.loop-k-preserved
loop-k-preserved c = search groups-next

pub shape_of-numbers : goal.shape_of-numbers
shape_of-numbers c = c.loop-k.invariant.rows.numbers-are.size_is

pub shape_of-starts : goal.shape_of-starts
shape_of-starts c = c.loop-k.invariant.rows.starts-are.size_is

pub returns : goal.returns
returns c = search groups-end
