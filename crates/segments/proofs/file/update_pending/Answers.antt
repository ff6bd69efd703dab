-- `segments::file::update_pending` meets its contract.
use borrow.Author.Rules.{rules}
use Rattle.format.specs.File.{update_pending}
use Rattle.segments.proofs.file.update_pending.Goals as goal

pub u32_at-requires : goal.u32_at-requires
unfolding update_pending
u32_at-requires c = search rules

pub returns : goal.returns
unfolding update_pending
returns c = search rules
