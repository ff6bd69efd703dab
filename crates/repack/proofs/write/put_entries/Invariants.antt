use Rattle.repack.proofs.TileLoops.{EntriesPut}
use Rattle.repack.proofs.write.put_entries.Given as goal

abbrev pub invariant-loop-k : goal.invariant-loop-k
invariant-loop-k l = EntriesPut l.s l.initial.out l.p l.fn.places.tiles l.out l.e l.at l.position l._k
