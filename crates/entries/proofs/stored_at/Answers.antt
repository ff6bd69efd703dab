-- `entries::stored_at` meets its contract.
use borrow.Author.Rules.{rules}
use Rattle.format.specs.Entry.{stored}
use Rattle.format.proofs.Flags.{flags}
use Rattle.entries.proofs.stored_at.Goals as goal

pub stored_field-field-requires : goal.stored_field-field-requires
unfolding stored
stored_field-field-requires c = search rules

pub size_at-requires : goal.size_at-requires
unfolding stored
size_at-requires c = search rules

pub returns-then-field-eq0 : goal.returns-then-field-eq0
unfolding stored
returns-then-field-eq0 c = search flags depth 8

pub returns : goal.returns
unfolding stored
returns c = search flags depth 8
