-- `entries::pyramid_byte` meets its contract.
use borrow.Author.Rules.{rules}
use Rattle.format.specs.Entry.{pyramid_byte}
use Rattle.entries.proofs.pyramid_byte.Goals as goal

pub overflow_add-e : goal.overflow_add-e
unfolding pyramid_byte
overflow_add-e c = search rules

pub byte_at-requires : goal.byte_at-requires
unfolding pyramid_byte
byte_at-requires c = search rules

pub returns : goal.returns
unfolding pyramid_byte
returns c = search rules
