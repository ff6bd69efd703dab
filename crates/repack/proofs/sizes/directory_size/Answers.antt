-- `repack::sizes::directory_size` meets its contract.
use Rattle.repack.proofs.Sums.{directory-sum, directory-fits}
use Rattle.repack.proofs.sizes.directory_size.Goals as goal

pub overflow_add-result : goal.overflow_add-result
overflow_add-result c = search directory-fits

pub returns : goal.returns
returns c = search directory-sum
