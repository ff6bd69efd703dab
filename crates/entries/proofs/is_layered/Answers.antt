-- `entries::is_layered` meets its contract.
use native.Mathlib.Omega.{arith}
use Rattle.format.specs.Entry.{next_entry, is_layered}
use Rattle.entries.proofs.is_layered.Goals as goal

pub dimension_count-n-requires : goal.dimension_count-n-requires
unfolding next_entry is_layered
dimension_count-n-requires c = omega arith

pub layers_below-requires : goal.layers_below-requires
unfolding next_entry is_layered
layers_below-requires c = omega arith

pub returns : goal.returns
unfolding next_entry is_layered
returns c = rw (← c.dimension_count-n.ensures.0) c.layers_below.ensures
