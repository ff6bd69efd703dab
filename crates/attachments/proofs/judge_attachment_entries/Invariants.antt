use Rattle.attachments.proofs.AttachmentLaws.{Entries}
use Rattle.attachments.proofs.judge_attachment_entries.Given as goal

abbrev pub invariant-loop-k : goal.invariant-loop-k
invariant-loop-k l = Entries l.walk.file.now l.t l.n l.k
