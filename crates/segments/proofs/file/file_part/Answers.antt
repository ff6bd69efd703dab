-- `segments::file::file_part` meets its contract.
use borrow.Author.Rules.{rules}
use Rattle.format.specs.File.{file_part}
use Rattle.segments.proofs.file.file_part.Goals as goal

pub u32_at-requires : goal.u32_at-requires
unfolding file_part
u32_at-requires c = search rules

pub returns : goal.returns
unfolding file_part
returns c = search rules
