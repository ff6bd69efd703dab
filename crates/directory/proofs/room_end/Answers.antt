-- `directory::room_end` meets its contract.
use native.Mathlib.Omega.{arith}
use borrow.Author.Rules.{rules}
use Rattle.format.specs.Directory.{room_end}
use Rattle.directory.proofs.room_end.Goals as goal

pub overflow_add-result : goal.overflow_add-result
unfolding room_end
overflow_add-result c = search rules

pub room_at-requires : goal.room_at-requires
unfolding room_end
room_at-requires c = search rules

pub overflow_add-result-2 : goal.overflow_add-result-2
unfolding room_end
overflow_add-result-2 c = omega arith

pub returns : goal.returns
unfolding room_end
returns c = omega arith
