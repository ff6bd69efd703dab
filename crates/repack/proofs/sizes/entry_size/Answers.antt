-- `repack::sizes::entry_size` meets its contract.
use native.Mathlib.Omega.{arith}
use Rattle.subblocks.proofs.PartLaws.{listed_in}
use Rattle.repacked.specs.NewFile.{entry_size}
use Rattle.repack.proofs.sizes.entry_size.Goals as goal

pub dimension_count-requires : goal.dimension_count-requires
dimension_count-requires c = search listed_in

pub returns : goal.returns
unfolding entry_size
returns c = omega arith
