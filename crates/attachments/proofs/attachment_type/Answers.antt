-- `attachments::attachment_type` meets its contract.
use borrow.Author.Rules.{rules}
use Rattle.format.specs.Attachments.{attachment_type}
use Rattle.attachments.proofs.attachment_type.Goals as goal

pub returns : goal.returns
unfolding attachment_type
returns c = search rules
