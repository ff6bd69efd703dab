-- `judge::judge` meets its contract.
use mathlib.Core.Path.{sym, ◌∙◌}
use Rattle.std.proofs.lemmas.Result.{err_from_is_err_and}
use Rattle.format.specs.Rules.{checks, verdict}
use Rattle.format.specs.Segments.{segments_rows}
use Rattle.format.proofs.Firsts.{first-pass, first-stop}
use Rattle.format.proofs.Walk.{file-long}
use Rattle.format.proofs.Answering.{verdict-answered}
use Rattle.segments.proofs.Walking.{filled, walk-stops, walk-passes}
use Rattle.judge.proofs.judge.Goals as goal

pub returns-in_err-count : goal.returns-in_err-count
unfolding verdict checks
returns-in_err-count c =
    let p = err_from_is_err_and c.from_residual.result c.from_residual.ensures.1 in
    rw (p.1, p.2) (verdict-answered (sym (first-stop (segments_rows _) _ _ (sym (walk-stops _ _ _ _ c.walk.ensures _ c.in_err-count.was)))))

pub invariant_of-walk : goal.invariant_of-walk
invariant_of-walk c = record { walked = filled _ _ _ _ c.walk.ensures _ c.in_ok-count.was }

pub judge_walked-requires : goal.judge_walked-requires
judge_walked-requires c = file-long _ (sym (walk-passes _ _ _ _ c.walk.ensures _ c.in_ok-count.was))

pub returns : goal.returns
unfolding verdict checks
returns c =
    verdict-answered
    (c.judge_walked.ensures ∙ sym (first-pass (segments_rows _) _ (sym (walk-passes _ _ _ _ c.walk.ensures _ c.in_ok-count.was))))
