-- `attachments::attachment_part` meets its contract.
use borrow.Author.Rules.{rules}
use Rattle.format.specs.Attachments.{attachment_part}
use Rattle.attachments.proofs.attachment_part.Goals as goal

pub returns : goal.returns
unfolding attachment_part
returns c = search rules
