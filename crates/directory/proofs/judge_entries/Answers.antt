-- `directory::judge_entries` meets its contract.
use borrow.Author.Rules.{rules}
use Rattle.std.proofs.lemmas.Result.{err_from_is_err_and}
use Rattle.format.specs.Scan.{scan_of}
use Rattle.format.specs.Directory.{room_end}
use Rattle.directory.proofs.Marking.{none-marked}
use Rattle.directory.proofs.Stages.{entries-start, entry_in, entries_next, entries-stop, entries-end}
use Rattle.directory.proofs.judge_entries.Goals as goal

pub first_entry-e-requires : goal.first_entry-e-requires
unfolding room_end
first_entry-e-requires c = search rules

pub loop-k-init : goal.loop-k-init
loop-k-init c = search (entries-start, none-marked)

pub returns-in_err-judge_entry : goal.returns-in_err-judge_entry
returns-in_err-judge_entry c = let p = err_from_is_err_and c.from_residual.result c.from_residual.ensures.1 in rw (p.1, p.2) (
    entries-stop _ _ _ _ _ _ c.loop-k.invariant _ _ c.judge_entry.ensures c.loop-k-test.true _ c.in_err-judge_entry.was)

pub next_entry-e-requires : goal.next_entry-e-requires
next_entry-e-requires c = entry_in (scan_of _ _) _ _ c.requires.room_in _ _ c.judge_entry.ensures c.in_ok-judge_entry.was

pub loop-k-preserved : goal.loop-k-preserved
loop-k-preserved c =
    entries_next _ _ _ _ _ _ c.loop-k.invariant _ _ c.judge_entry.ensures c.loop-k-test.true _ c.requires.room_in c.in_ok-judge_entry.was c.next_entry-e.ensures

pub returns : goal.returns
returns c = entries-end _ _ _ _ _ _ c.loop-k.invariant c.loop-k-test.false
