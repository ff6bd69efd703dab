-- `attachments::judge_attachment_entries` meets its contract.
use native.Mathlib.Omega.{arith}
use borrow.Author.Rules.{rules}
use Rattle.std.proofs.lemmas.Result.{err_from_is_err_and}
use Rattle.format.specs.Attachments.{attachment_entry}
use Rattle.attachments.proofs.AttachmentLaws.{entry-within, entries-start, entries_next, entries-stop, entries-end}
use Rattle.attachments.proofs.judge_attachment_entries.Goals as goal

pub loop-k-init : goal.loop-k-init
loop-k-init c = entries-start _ _ _

-- the place of an entry is below that of the directory's end
pub attachment_entry-requires : goal.attachment_entry-requires
unfolding attachment_entry
attachment_entry-requires c = omega arith

pub judge_attachment_entry-requires : goal.judge_attachment_entry-requires
judge_attachment_entry-requires c = search (rules, entry-within)

pub returns-in_err-judge_attachment_entry : goal.returns-in_err-judge_attachment_entry
returns-in_err-judge_attachment_entry c = let p = err_from_is_err_and c.from_residual.result c.from_residual.ensures.1 in rw (p.1, p.2) (
    entries-stop _ _ _ _ c.loop-k.invariant _ c.attachment_entry.ensures _ c.judge_attachment_entry.ensures c.loop-k-test.true
    _ c.in_err-judge_attachment_entry.was)

pub loop-k-preserved : goal.loop-k-preserved
loop-k-preserved c = search (entries_next, c.in_ok-judge_attachment_entry.was)

pub returns : goal.returns
returns c = entries-end _ _ _ _ c.loop-k.invariant c.loop-k-test.false
