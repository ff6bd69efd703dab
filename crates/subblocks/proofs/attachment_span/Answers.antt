-- `subblocks::attachment_span` meets its contract.
use borrow.Author.Rules.{rules}
use Rattle.format.specs.Records.{attachment_span}
use Rattle.subblocks.proofs.PartLaws.{sizes-in}
use Rattle.subblocks.proofs.attachment_span.Goals as goal

pub attachment_place-start-requires : goal.attachment_place-start-requires
unfolding attachment_span
attachment_place-start-requires c = search rules

pub attachment_size-length-requires : goal.attachment_size-length-requires
unfolding attachment_span
attachment_size-length-requires c = search sizes-in

pub returns : goal.returns
unfolding attachment_span
returns c = cc
