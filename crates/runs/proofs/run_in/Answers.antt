-- `runs::run_in` meets its contract.
use Prim.Native.Nat.{◌/◌, ◌%◌, ◌^◌}
use native.Mathlib.Omega.{arith}
use lib.Count.{leading_le}
use Rattle.runs.proofs.Bytes.{rest-pos, rest_lt, run-rest}
use Rattle.runs.proofs.run_in.Goals as goal

pub nonzero_rem-rest : goal.nonzero_rem-rest
nonzero_rem-rest c = rest-pos _ c.requires

pub overflow_cast-result : goal.overflow_cast-result
overflow_cast-result c = record { fits = rest_lt _ _ c.requires }

pub overflow_cast-result-2 : goal.overflow_cast-result-2
overflow_cast-result-2 c = omega (arith, leading_le 8 (c.differing_bits.result % (256 / 2 ^ c.args.a)))

pub returns : goal.returns
returns c = run-rest _ (omega arith) _ _ c.requires _ c.differing_bits.ensures
