-- `judge::attachment_count` meets its contract.
use Rattle.format.proofs.Flags.{flags}
use Rattle.format.specs.Attachments.{attachment_count}
use Rattle.judge.proofs.AcceptedFile.{accepted-long, accepted-attachments}
use Rattle.judge.proofs.attachment_count.Goals as goal

pub attachment_directory_position-t-requires : goal.attachment_directory_position-t-requires
unfolding attachment_count
attachment_directory_position-t-requires c = search accepted-long

pub returns-then-t-eq0 : goal.returns-then-t-eq0
unfolding attachment_count
returns-then-t-eq0 c = rw (← c.attachment_directory_position-t.ensures) (search flags depth 8)

pub attachment_entry_count-requires : goal.attachment_entry_count-requires
unfolding attachment_count
attachment_entry_count-requires c = search accepted-attachments

pub returns : goal.returns
unfolding attachment_count
returns c = rw (← c.attachment_directory_position-t.ensures) (search flags depth 8)
