use Rattle.repack.proofs.TileLoops.{BlocksPut}
use Rattle.repack.proofs.write.put_blocks.Given as goal

abbrev pub invariant-loop-k : goal.invariant-loop-k
invariant-loop-k l = BlocksPut l.s l.initial.out l.fn.places.block l.fn.places.tiles l.out l.e l.at l._k
