-- `entries::biased_start` meets its contract.
use borrow.Author.Rules.{rules}
use Rattle.format.specs.Bytes.{biased}
use Rattle.entries.proofs.biased_start.Goals as goal

pub start_at-requires : goal.start_at-requires
unfolding biased
start_at-requires c = search rules

pub biased_of-requires : goal.biased_of-requires
unfolding biased
biased_of-requires c = search rules

pub returns : goal.returns
unfolding biased
returns c = search rules
