-- `compose::Question::compose` meets its contract.
use Rattle.std.proofs.lemmas.Result.{err_from_is_err_and}
use Rattle.compose.proofs.Examining.{call-sides, plane-room, done, refused}
use Rattle.compose.proofs.Question.compose.Goals as goal

pub returns-in_err-examine : goal.returns-in_err-examine
returns-in_err-examine c =
    let p = err_from_is_err_and c.from_residual.result c.from_residual.ensures.1 in rw (p.1, p.2) (refused _ _ _ _ c.examine.ensures c.in_err-examine.was)

pub window_of-requires : goal.window_of-requires
window_of-requires c = call-sides _ _ _ _ c.examine.ensures c.in_ok-examine.was

pub paint-requires : goal.paint-requires
paint-requires c = plane-room _ _ _ _ c.examine.ensures c.in_ok-examine.was c.window_of.ensures

pub returns : goal.returns
returns c = search (done, c.in_ok-examine.was)
