use Rattle.runs.proofs.Bytes.{Full}
use Rattle.runs.proofs.pass_bytes.Given as goal

abbrev pub invariant-loop-i : goal.invariant-loop-i
invariant-loop-i l = Full l.m l.v l.k l.i
