-- `attachments::attachment_data_size` meets its contract.
use borrow.Author.Rules.{rules}
use Rattle.format.specs.Attachments.{attachment_data_size}
use Rattle.attachments.proofs.attachment_data_size.Goals as goal

pub returns : goal.returns
unfolding attachment_data_size
returns c = search rules
