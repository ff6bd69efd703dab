use Rattle.compose.proofs.Agreeing.{AgreedBelow}
use Rattle.compose.proofs.Selected.agree.Given as goal

abbrev pub invariant-loop-k : goal.invariant-loop-k
invariant-loop-k l = AgreedBelow l.self.question.file.now l.self.table.now l.self.window l.self.question.request.pixel_type l.n l.k
