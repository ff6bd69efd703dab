-- `subblocks::fixed_part` meets its contract.
use native.Mathlib.Omega.{arith}
use Rattle.format.specs.Entry.{next_entry}
use Rattle.format.specs.SubBlock.{fixed_part}
use Rattle.subblocks.proofs.fixed_part.Goals as goal

pub dimension_count-requires : goal.dimension_count-requires
unfolding next_entry fixed_part
dimension_count-requires c = omega arith

pub overflow_mul-f : goal.overflow_mul-f
unfolding next_entry fixed_part
overflow_mul-f c = omega arith

pub overflow_add-f : goal.overflow_add-f
unfolding next_entry fixed_part
overflow_add-f c = omega arith

pub returns-then-f-lt256 : goal.returns-then-f-lt256
unfolding next_entry fixed_part
returns-then-f-lt256 c = omega arith

pub returns : goal.returns
unfolding next_entry fixed_part
returns c = omega arith
