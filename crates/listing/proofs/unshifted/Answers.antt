-- `listing::unshifted` meets its contract.
use native.Mathlib.Omega.{arith}
use Rattle.format.specs.Bytes.{biased}
use Rattle.listing.proofs.unshifted.Goals as goal

pub signed_of-requires : goal.signed_of-requires
unfolding biased
signed_of-requires c = omega arith
