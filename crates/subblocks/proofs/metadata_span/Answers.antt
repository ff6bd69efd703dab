-- `subblocks::metadata_span` meets its contract.
use borrow.Author.Rules.{rules}
use Rattle.format.specs.Records.{metadata_span}
use Rattle.subblocks.proofs.PartLaws.{sizes-in}
use Rattle.subblocks.proofs.metadata_span.Goals as goal

pub metadata_place-start-requires : goal.metadata_place-start-requires
unfolding metadata_span
metadata_place-start-requires c = search rules

pub metadata_size-length-requires : goal.metadata_size-length-requires
unfolding metadata_span
metadata_size-length-requires c = search sizes-in

pub returns : goal.returns
unfolding metadata_span
returns c = cc
