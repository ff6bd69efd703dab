-- `segments::file::directory_position` meets its contract.
use borrow.Author.Rules.{rules}
use Rattle.format.specs.File.{directory_position}
use Rattle.segments.proofs.file.directory_position.Goals as goal

pub u64_at-requires : goal.u64_at-requires
unfolding directory_position
u64_at-requires c = search rules

pub returns : goal.returns
unfolding directory_position
returns c = search rules
