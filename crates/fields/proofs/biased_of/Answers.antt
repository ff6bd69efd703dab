-- `fields::biased_of` meets its contract.
use native.Mathlib.Omega.{arith}
use Rattle.format.specs.Bytes.{biased}
use Rattle.fields.proofs.biased_of.Goals as goal

pub returns : goal.returns
unfolding biased
returns c = omega arith
