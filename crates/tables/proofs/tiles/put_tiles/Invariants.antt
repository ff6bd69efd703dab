use Rattle.tables.proofs.Filling.{TilesFilling}
use Rattle.tables.proofs.tiles.put_tiles.Given as goal

abbrev pub invariant-loop-k : goal.invariant-loop-k
invariant-loop-k l = TilesFilling l.s l.release l.n l.e l.k l.initial.numbers l.initial.starts l.numbers l.starts
