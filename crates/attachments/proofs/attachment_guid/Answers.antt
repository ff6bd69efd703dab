-- `attachments::attachment_guid` meets its contract.
use borrow.Author.Rules.{rules}
use Rattle.format.specs.Attachments.{attachment_guid}
use Rattle.attachments.proofs.attachment_guid.Goals as goal

pub returns : goal.returns
unfolding attachment_guid
returns c = search rules
