-- `runs::run_end` meets its contract.
use native.Mathlib.Omega.{arith}
use Rattle.runs.proofs.Runs.{run-empty, run-cut, run-stops}
use Rattle.runs.proofs.Bytes.{run_at, run-through}
use Rattle.runs.proofs.run_end.Goals as goal

pub returns-then-a-e : goal.returns-then-a-e
returns-then-a-e c = run-empty c.if-a-e.true

pub returns-then-e-at : goal.returns-then-e-at
returns-then-e-at c = run-cut (run_at _ _ (omega arith) c.run_in-r.ensures) (omega arith) (omega arith)

pub returns-then-r-lt8 : goal.returns-then-r-lt8
returns-then-r-lt8 c = run-stops (run_at _ _ (omega arith) c.run_in-r.ensures) (omega arith) (omega arith)

pub returns : goal.returns
returns c = run-through _ _ (omega arith) c.run_in-r.ensures (omega arith) c.run_from_byte.ensures
