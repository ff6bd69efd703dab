-- `repack::sizes::attachment_directory_size` meets its contract.
use mathlib.Core.Path.{refl}
use Rattle.repacked.specs.NewFile.{attachment_directory_size}
use Rattle.repack.proofs.sizes.attachment_directory_size.Goals as goal

pub returns : goal.returns
unfolding attachment_directory_size
returns c = refl
