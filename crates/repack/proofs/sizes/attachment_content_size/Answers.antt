-- `repack::sizes::attachment_content_size` meets its contract.
use native.Mathlib.Omega.{arith}
use Rattle.repacked.specs.NewFile.{attachment_content_size}
use Rattle.repack.proofs.sizes.attachment_content_size.Goals as goal

pub returns : goal.returns
unfolding attachment_content_size
returns c = omega arith
