-- `entries::holds_letter` meets its contract.
use native.Mathlib.Omega.{arith}
use Rattle.format.specs.Entry.{next_entry}
use Rattle.entries.proofs.holds_letter.Goals as goal

pub dimension_count-n-requires : goal.dimension_count-n-requires
unfolding next_entry
dimension_count-n-requires c = omega arith

pub holds_below-requires : goal.holds_below-requires
unfolding next_entry
holds_below-requires c = omega arith

pub returns : goal.returns
unfolding next_entry
returns c = rw (← c.dimension_count-n.ensures.0) c.holds_below.ensures
