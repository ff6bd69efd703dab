-- `subblocks::pixels_span` meets its contract.
use borrow.Author.Rules.{rules}
use Rattle.format.specs.Records.{pixels_span}
use Rattle.subblocks.proofs.PartLaws.{sizes-in}
use Rattle.subblocks.proofs.pixels_span.Goals as goal

pub pixels_place-start-requires : goal.pixels_place-start-requires
unfolding pixels_span
pixels_place-start-requires c = search rules

pub data_size-length-requires : goal.data_size-length-requires
unfolding pixels_span
data_size-length-requires c = search sizes-in

pub returns : goal.returns
unfolding pixels_span
returns c = cc
