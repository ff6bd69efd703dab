use Rattle.settings.proofs.Numbers.{Spelling}
use Rattle.settings.proofs.number_of.Given as goal

abbrev pub invariant-loop-d : goal.invariant-loop-d
invariant-loop-d l = Spelling l.digits l.n l.d-index
