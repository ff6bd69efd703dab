-- `segments::walk_segments` meets its contract.
use native.Mathlib.Omega.{arith}
use Rattle.std.proofs.lemmas.Result.{err_from_is_err_and}
use Rattle.segments.proofs.Walking.{segment-in, walking_start, turn-full, turn-next, turn-stop, turn_end}
use Rattle.segments.proofs.walk_segments.Goals as goal

pub loop-p-init : goal.loop-p-init
loop-p-init c = walking_start _ _ _ c.requires.table_len

pub returns-then-k-eq8192 : goal.returns-then-k-eq8192
returns-then-k-eq8192 c = search turn-full

pub returns-in_err-judge_segment : goal.returns-in_err-judge_segment
returns-in_err-judge_segment c =
    let p = err_from_is_err_and c.from_residual.result c.from_residual.ensures.1 in rw (p.1, p.2) (search (turn-stop, c.in_err-judge_segment.was))

pub overflow_add-p-in-loop-p : goal.overflow_add-p-in-loop-p
overflow_add-p-in-loop-p c = omega (arith, segment-in _ _ _ _ c.judge_segment.ensures c.in_ok-judge_segment.was c.allocated_at.ensures)

pub loop-p-preserved : goal.loop-p-preserved
loop-p-preserved c = search (turn-next, c.in_ok-judge_segment.was)

pub returns : goal.returns
returns c = search turn_end
