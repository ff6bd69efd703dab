-- `directory::judge_entry` meets its contract.
use borrow.Author.Rules.{rules}
use Rattle.std.proofs.lemmas.Result.{err_from_is_err_and}
use Rattle.format.specs.Directory.{entry_rows}
use Rattle.directory.proofs.Stages.{head_few, head-entry}
use Rattle.directory.proofs.Marking.{answered-stop, answered-next}
use Rattle.directory.proofs.judge_entry.Goals as goal

pub judge_body-requires : goal.judge_body-requires
judge_body-requires c = search (rules, head_few, head-entry, c.in_ok-judge_head.was)

pub returns-in_err-judge_head : goal.returns-in_err-judge_head
unfolding entry_rows
returns-in_err-judge_head c = let p = err_from_is_err_and c.from_residual.result c.from_residual.ensures.1 in rw (p.1, p.2) (search (answered-stop, c.in_err-judge_head.was))

pub returns : goal.returns
unfolding entry_rows
returns c = search (answered-next, c.in_ok-judge_head.was)
