-- `runs::run_from_byte` meets its contract.
use borrow.Author.Rules.{rules}
use Rattle.runs.proofs.Bytes.{run-bytes, run-over, run-in-last}
use Rattle.runs.proofs.run_from_byte.Goals as goal

pub returns-then-at-e : goal.returns-then-at-e
returns-then-at-e c = search run-bytes

pub returns-then-e-at : goal.returns-then-e-at
returns-then-e-at c = search run-over

pub returns : goal.returns
returns c = run-in-last _ _ _ c.pass_bytes-j.ensures c.run_in-r.ensures (λ k. search rules) c.if-e-at.false
