-- `entries::coordinate_bits` meets its contract.
use borrow.Author.Rules.{rules}
use Rattle.format.specs.Entry.{coordinate_bits}
use Rattle.entries.proofs.coordinate_bits.Goals as goal

pub overflow_add-d : goal.overflow_add-d
unfolding coordinate_bits
overflow_add-d c = search rules

pub u32_at-requires : goal.u32_at-requires
unfolding coordinate_bits
u32_at-requires c = search rules

pub returns : goal.returns
unfolding coordinate_bits
returns c = search rules
