-- `directory::first_entry` meets its contract.
use native.Mathlib.Omega.{arith}
use borrow.Author.Rules.{rules}
use Rattle.format.specs.Directory.{entry_place}
use Rattle.directory.proofs.first_entry.Goals as goal

pub directory_position-requires : goal.directory_position-requires
unfolding entry_place
directory_position-requires c = search rules

pub overflow_add-result : goal.overflow_add-result
unfolding entry_place
overflow_add-result c = omega arith

pub returns : goal.returns
unfolding entry_place
returns c = omega arith
