use Rattle.repacked.specs.NewFile.{entries_size}
use Rattle.repack.proofs.Sums.{Adding}
use Rattle.repack.proofs.sizes.entries_size.Given as goal

abbrev pub invariant-loop-k : goal.invariant-loop-k
invariant-loop-k l = Adding l.s (entries_size l.s) l.n l.e l.size l._k
