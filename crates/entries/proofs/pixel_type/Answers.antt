-- `entries::pixel_type` meets its contract.
use borrow.Author.Rules.{rules}
use Rattle.format.specs.Entry.{pixel_type}
use Rattle.entries.proofs.pixel_type.Goals as goal

pub overflow_add-e : goal.overflow_add-e
unfolding pixel_type
overflow_add-e c = search rules

pub u32_at-requires : goal.u32_at-requires
unfolding pixel_type
u32_at-requires c = search rules

pub returns : goal.returns
unfolding pixel_type
returns c = search rules
