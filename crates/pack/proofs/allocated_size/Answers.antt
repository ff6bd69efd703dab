-- `pack::allocated_size` meets its contract.
use native.Mathlib.Omega.{arith}
use Rattle.pack.specs.Pack.{allocated}
use Rattle.pack.proofs.allocated_size.Goals as goal

pub returns : goal.returns
unfolding allocated
returns c = omega arith
