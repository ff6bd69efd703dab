-- `attachments::xml_size` meets its contract.
use borrow.Author.Rules.{rules}
use Rattle.format.specs.Attachments.{xml_size}
use Rattle.attachments.proofs.xml_size.Goals as goal

pub returns : goal.returns
unfolding xml_size
returns c = search rules
