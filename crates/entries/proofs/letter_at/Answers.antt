-- `entries::letter_at` meets its contract.
use borrow.Author.Rules.{rules}
use Rattle.format.specs.Entry.{letter}
use Rattle.entries.proofs.letter_at.Goals as goal

pub u32_at-requires : goal.u32_at-requires
unfolding letter
u32_at-requires c = search rules

pub returns : goal.returns
unfolding letter
returns c = search rules
