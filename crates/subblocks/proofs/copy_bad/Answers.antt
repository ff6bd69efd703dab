-- `subblocks::copy_bad` meets its contract.
use native.Mathlib.Omega.{arith}
use Rattle.format.proofs.Flags.{flags}
use Rattle.format.specs.Entry.{next_entry}
use Rattle.format.specs.SubBlock.{copy_bad, fixed_part}
use Rattle.subblocks.proofs.copy_bad.Goals as goal

pub overflow_add-q : goal.overflow_add-q
unfolding next_entry fixed_part copy_bad
overflow_add-q c = omega arith

pub same_range-requires : goal.same_range-requires
unfolding next_entry fixed_part copy_bad
same_range-requires c = omega arith

pub returns-then-not-same_range : goal.returns-then-not-same_range
unfolding next_entry fixed_part copy_bad
returns-then-not-same_range c = search flags depth 8

pub dimension_count-n-requires : goal.dimension_count-n-requires
unfolding next_entry fixed_part copy_bad
dimension_count-n-requires c = omega arith

pub overflow_mul-n : goal.overflow_mul-n
unfolding next_entry fixed_part copy_bad
overflow_mul-n c = omega arith

pub overflow_add-n : goal.overflow_add-n
unfolding next_entry fixed_part copy_bad
overflow_add-n c = omega arith

pub overflow_add-e : goal.overflow_add-e
unfolding next_entry fixed_part copy_bad
overflow_add-e c = omega arith

pub overflow_add-q-2 : goal.overflow_add-q-2
unfolding next_entry fixed_part copy_bad
overflow_add-q-2 c = omega arith

pub same_range-requires-2 : goal.same_range-requires-2
unfolding next_entry fixed_part copy_bad
same_range-requires-2 c = omega arith

pub returns-then-not-same_range-2 : goal.returns-then-not-same_range-2
unfolding next_entry fixed_part copy_bad
returns-then-not-same_range-2 c = rw (← c.dimension_count-n.ensures.0) (search flags depth 8)

pub returns : goal.returns
unfolding next_entry fixed_part copy_bad
returns c = rw (← c.dimension_count-n.ensures.0) (search flags depth 8)
