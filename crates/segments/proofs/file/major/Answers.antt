-- `segments::file::major` meets its contract.
use borrow.Author.Rules.{rules}
use Rattle.format.specs.File.{major}
use Rattle.segments.proofs.file.major.Goals as goal

pub u32_at-requires : goal.u32_at-requires
unfolding major
u32_at-requires c = search rules

pub returns : goal.returns
unfolding major
returns c = search rules
