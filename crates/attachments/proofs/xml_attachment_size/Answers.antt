-- `attachments::xml_attachment_size` meets its contract.
use borrow.Author.Rules.{rules}
use Rattle.format.specs.Attachments.{xml_attachment_size}
use Rattle.attachments.proofs.xml_attachment_size.Goals as goal

pub returns : goal.returns
unfolding xml_attachment_size
returns c = search rules
