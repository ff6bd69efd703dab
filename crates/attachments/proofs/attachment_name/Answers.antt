-- `attachments::attachment_name` meets its contract.
use borrow.Author.Rules.{rules}
use Rattle.format.specs.Attachments.{attachment_name}
use Rattle.attachments.proofs.attachment_name.Goals as goal

pub returns : goal.returns
unfolding attachment_name
returns c = search rules
