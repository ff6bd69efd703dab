-- `segments::file::metadata_position` meets its contract.
use borrow.Author.Rules.{rules}
use Rattle.format.specs.File.{metadata_position}
use Rattle.segments.proofs.file.metadata_position.Goals as goal

pub u64_at-requires : goal.u64_at-requires
unfolding metadata_position
u64_at-requires c = search rules

pub returns : goal.returns
unfolding metadata_position
returns c = search rules
