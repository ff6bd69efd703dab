-- `directory::judge_chunks_once` meets its contract.
use Rattle.std.proofs.lemmas.Result.{err_from_is_err_and}
use Rattle.directory.proofs.Marking.{judged-before, judged-refused, judged-now}
use Rattle.directory.proofs.judge_chunks_once.Goals as goal

pub returns-then-judged-k-ne0 : goal.returns-then-judged-k-ne0
returns-then-judged-k-ne0 c = search judged-before

pub returns-in_err-judge_attachment : goal.returns-in_err-judge_attachment
returns-in_err-judge_attachment c = let p = err_from_is_err_and c.from_residual.result c.from_residual.ensures.1 in rw (p.1, p.2) (search (judged-refused, c.in_err-judge_attachment.was))

pub returns : goal.returns
returns c = search (judged-now, c.in_ok-judge_attachment.was)
