-- `pack::segment_size` meets its contract.
use native.Mathlib.Omega.{arith}
use Rattle.pack.specs.Pack.{allocated, segment_size}
use Rattle.pack.proofs.segment_size.Goals as goal

pub overflow_add-result : goal.overflow_add-result
unfolding allocated
overflow_add-result c = omega arith

pub returns : goal.returns
unfolding segment_size
returns c = omega arith
