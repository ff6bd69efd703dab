-- `attachments::attachment_entry_bad` meets its contract.
use Rattle.format.specs.Names.{mark_attachment}
use Rattle.format.specs.Attachments.{attachment_entry_bad}
use Rattle.format.proofs.Flags.{flags}
use Rattle.attachments.proofs.attachment_entry_bad.Goals as goal

pub returns-then-not-same_at : goal.returns-then-not-same_at
unfolding attachment_entry_bad mark_attachment
returns-then-not-same_at c = search flags depth 8

pub returns-then-not-has_zero : goal.returns-then-not-has_zero
unfolding attachment_entry_bad mark_attachment
returns-then-not-has_zero c = search flags depth 8

pub returns : goal.returns
unfolding attachment_entry_bad mark_attachment
returns c = search flags depth 8
