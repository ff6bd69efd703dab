-- `subblocks::has_chunks` meets its contract.
use native.Mathlib.Omega.{arith}
use Rattle.subblocks.proofs.PartLaws.{sizes-in, filled_in, older-plain, newer-declared}
use Rattle.subblocks.proofs.has_chunks.Goals as goal

pub metadata_size-requires : goal.metadata_size-requires
metadata_size-requires c = search sizes-in

pub is_container-requires : goal.is_container-requires
is_container-requires c = omega (arith, (filled_in _ _ _ _ c.requires).metadata)

pub returns-in-R102 : goal.returns-in-R102
returns-in-R102 c = search older-plain

pub returns-in-R12 : goal.returns-in-R12
returns-in-R12 c = search newer-declared
