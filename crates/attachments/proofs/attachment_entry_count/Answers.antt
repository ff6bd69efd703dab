-- `attachments::attachment_entry_count` meets its contract.
use borrow.Author.Rules.{rules}
use Rattle.format.specs.Attachments.{attachment_entry_count}
use Rattle.attachments.proofs.attachment_entry_count.Goals as goal

pub overflow_add-t : goal.overflow_add-t
unfolding attachment_entry_count
overflow_add-t c = search rules

pub u32_at-requires : goal.u32_at-requires
unfolding attachment_entry_count
u32_at-requires c = search rules

pub returns : goal.returns
unfolding attachment_entry_count
returns c = search rules
