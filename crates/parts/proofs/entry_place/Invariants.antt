use Rattle.judge.proofs.EntryLoop.{AtEntry}
use Rattle.parts.proofs.entry_place.Given as goal

abbrev pub invariant-loop : goal.invariant-loop
invariant-loop l = AtEntry l.s l.n l.e l.counter
