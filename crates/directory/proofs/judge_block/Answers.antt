-- `directory::judge_block` meets its contract.
use Rattle.std.proofs.lemmas.Result.{err_from_is_err_and}
use Rattle.directory.proofs.Stages.{chunks-known}
use Rattle.directory.proofs.Marking.{answered-stop, answered-next}
use Rattle.directory.proofs.judge_block.Goals as goal

pub judge_chunks_once-requires : goal.judge_chunks_once-requires
judge_chunks_once-requires c = search (chunks-known, c.in_ok-judge_sub_block.was)

pub returns-in_err-judge_sub_block : goal.returns-in_err-judge_sub_block
returns-in_err-judge_sub_block c = let p = err_from_is_err_and c.from_residual.result c.from_residual.ensures.1 in rw (p.1, p.2) (search (answered-stop, c.in_err-judge_sub_block.was))

pub returns : goal.returns
returns c = search (answered-next, c.in_ok-judge_sub_block.was)
