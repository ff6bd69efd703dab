-- `segments::room_at` meets its contract.
use borrow.Author.Rules.{rules}
use Rattle.format.proofs.Flags.{flags}
use Rattle.format.specs.Segments.{room}
use Rattle.segments.proofs.room_at.Goals as goal

pub used_at-used-requires : goal.used_at-used-requires
unfolding room
used_at-used-requires c = search rules

pub allocated_at-allocated-requires : goal.allocated_at-allocated-requires
unfolding room
allocated_at-allocated-requires c = search rules

pub returns-then-used-eq0 : goal.returns-then-used-eq0
unfolding room
returns-then-used-eq0 c = search flags depth 8

pub returns : goal.returns
unfolding room
returns c = search flags depth 8
