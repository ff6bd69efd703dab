use Prim.Native.Nat.{◌+◌, ◌*◌}
use Rattle.runs.proofs.Bytes.{Full}
use Rattle.runs.proofs.pass_words.Given as goal

abbrev pub invariant-loop-j : goal.invariant-loop-j
invariant-loop-j l = Full l.m l.v l.k (l.k + 8 * l.j)
