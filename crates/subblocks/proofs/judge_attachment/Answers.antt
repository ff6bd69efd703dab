-- `subblocks::judge_attachment` meets its contract.
use native.Mathlib.Omega.{arith}
use borrow.Author.Rules.{rules}
use Rattle.subblocks.proofs.PartLaws.{sizes-in, attachment-in, empty-accepted, plain-accepted, chunks-judged}
use Rattle.subblocks.proofs.judge_attachment.Goals as goal

pub attachment_size-n-requires : goal.attachment_size-n-requires
attachment_size-n-requires c = search sizes-in

pub returns-then-n-eq0 : goal.returns-then-n-eq0
returns-then-n-eq0 c = search empty-accepted

pub returns-then-not-has_chunks : goal.returns-then-not-has_chunks
returns-then-not-has_chunks c = search plain-accepted

pub overflow_add-a : goal.overflow_add-a
overflow_add-a c = omega (arith, attachment-in _ _ _ _ _ _ c.attachment_size-n.ensures.0 c.attachment_place-a.ensures c.requires)

pub judge_chunks-requires : goal.judge_chunks-requires
judge_chunks-requires c = search (rules, attachment-in)

pub returns : goal.returns
returns c = search chunks-judged
