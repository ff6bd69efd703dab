-- `masks::chunk_size` meets its contract.
use borrow.Author.Rules.{rules}
use Rattle.format.specs.Masks.{chunk_size}
use Rattle.masks.proofs.chunk_size.Goals as goal

pub overflow_add-c : goal.overflow_add-c
unfolding chunk_size
overflow_add-c c = search rules

pub u32_at-requires : goal.u32_at-requires
unfolding chunk_size
u32_at-requires c = search rules

pub returns : goal.returns
unfolding chunk_size
returns c = search rules
