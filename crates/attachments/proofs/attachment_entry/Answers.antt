-- `attachments::attachment_entry` meets its contract.
use borrow.Author.Rules.{rules}
use Rattle.format.specs.Attachments.{attachment_entry}
use Rattle.attachments.proofs.attachment_entry.Goals as goal

pub overflow_add-result : goal.overflow_add-result
unfolding attachment_entry
overflow_add-result c = search rules

pub overflow_mul-result : goal.overflow_mul-result
unfolding attachment_entry
overflow_mul-result c = search rules

pub overflow_add-result-2 : goal.overflow_add-result-2
unfolding attachment_entry
overflow_add-result-2 c = search rules

pub returns : goal.returns
unfolding attachment_entry
returns c = search rules
