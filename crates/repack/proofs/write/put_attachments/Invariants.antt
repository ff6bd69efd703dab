use Rattle.repack.proofs.AnnexLoops.{AttachmentsPut}
use Rattle.repack.proofs.write.put_attachments.Given as goal

abbrev pub invariant-loop-k : goal.invariant-loop-k
invariant-loop-k l = AttachmentsPut l.s l.initial.out l.fn.places.attachment l.fn.places.attachments l.out l.at l.k
