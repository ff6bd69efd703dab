-- `attachments::attachment_position` meets its contract.
use borrow.Author.Rules.{rules}
use Rattle.format.specs.Attachments.{attachment_position}
use Rattle.attachments.proofs.attachment_position.Goals as goal

pub overflow_add-e : goal.overflow_add-e
unfolding attachment_position
overflow_add-e c = search rules

pub u64_at-requires : goal.u64_at-requires
unfolding attachment_position
u64_at-requires c = search rules

pub returns : goal.returns
unfolding attachment_position
returns c = search rules
