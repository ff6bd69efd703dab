-- `subblocks::mask_of` meets its contract.
use native.Mathlib.Omega.{arith}
use borrow.Author.Rules.{rules}
use Rattle.subblocks.proofs.PartLaws.{sizes-in, attachment-in, empty-unmasked, plain-unmasked, chunks-masked, chunks-accepted}
use Rattle.subblocks.proofs.mask_of.Goals as goal

pub attachment_size-n-requires : goal.attachment_size-n-requires
attachment_size-n-requires c = search sizes-in

pub returns-then-n-eq0 : goal.returns-then-n-eq0
returns-then-n-eq0 c = search empty-unmasked

pub returns-then-not-has_chunks : goal.returns-then-not-has_chunks
returns-then-not-has_chunks c = search plain-unmasked

pub overflow_add-a : goal.overflow_add-a
overflow_add-a c = omega (arith, attachment-in _ _ _ _ _ _ c.attachment_size-n.ensures.0 c.attachment_place-a.ensures c.requires.filled)

pub mask_in-requires : goal.mask_in-requires
mask_in-requires c = search (rules, attachment-in, chunks-accepted)

pub returns : goal.returns
returns c = search chunks-masked
