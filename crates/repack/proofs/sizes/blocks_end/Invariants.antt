use Rattle.repacked.specs.NewFile.{new_block}
use Rattle.repack.proofs.Sums.{Adding}
use Rattle.repack.proofs.sizes.blocks_end.Given as goal

abbrev pub invariant-loop-k : goal.invariant-loop-k
invariant-loop-k l = Adding l.s (new_block l.s) l.n l.e l.at l._k
