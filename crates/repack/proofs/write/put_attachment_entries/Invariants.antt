use Rattle.repack.proofs.AnnexLoops.{EntriesPut}
use Rattle.repack.proofs.write.put_attachment_entries.Given as goal

abbrev pub invariant-loop-k : goal.invariant-loop-k
invariant-loop-k l = EntriesPut l.s l.initial.out l.p l.fn.places.attachments l.out l.position l.k
