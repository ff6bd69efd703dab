-- `tables::dimensions::put_dimensions_of` meets its contract.
use native.Mathlib.Omega.{arith}
use Rattle.tables.proofs.Filling.{dimensions-start, dimensions-room, dimensions-next, dimensions-end}
use Rattle.tables.proofs.dimensions.put_dimensions_of.Goals as goal

pub loop-j-init : goal.loop-j-init
loop-j-init c = (omega arith, dimensions-start _ _ _ _ _)

pub put_dimension-requires : goal.put_dimension-requires
put_dimension-requires c = record { accepted_file = (search, search, omega arith, omega arith); row_room = search dimensions-room }

pub loop-j-preserved : goal.loop-j-preserved
loop-j-preserved c = (omega arith, search dimensions-next)

pub shape_of-numbers : goal.shape_of-numbers
shape_of-numbers c = c.loop-j.invariant.1.numbers-are.size_is

pub shape_of-starts : goal.shape_of-starts
shape_of-starts c = c.loop-j.invariant.1.starts-are.size_is

pub returns : goal.returns
returns c = search dimensions-end
