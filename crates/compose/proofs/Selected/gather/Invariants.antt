use Rattle.compose.proofs.Gathering.{GatheredBelow}
use Rattle.compose.proofs.Selected.gather.Given as goal

abbrev pub invariant-loop-k : goal.invariant-loop-k
invariant-loop-k l = GatheredBelow l.n l.self.question.file.now l.self.table.now l.self.window l.keys l.count l.k
