-- `segments::file::attachment_directory_position` meets its contract.
use borrow.Author.Rules.{rules}
use Rattle.format.specs.File.{attachment_directory_position}
use Rattle.segments.proofs.file.attachment_directory_position.Goals as goal

pub u64_at-requires : goal.u64_at-requires
unfolding attachment_directory_position
u64_at-requires c = search rules

pub returns : goal.returns
unfolding attachment_directory_position
returns c = search rules
