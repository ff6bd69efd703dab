-- `pack::put_padding` meets its contract.
use native.Mathlib.Omega.{arith}
use Rattle.pack.proofs.Sizes.{allocated-holds}
use Rattle.pack.proofs.Pieces.{padding-put}
use Rattle.pack.proofs.put_padding.Goals as goal

pub overflow_sub-allocated_size : goal.overflow_sub-allocated_size
overflow_sub-allocated_size c = omega (arith, allocated-holds c.args.n)

pub returns : goal.returns
returns c = search padding-put
