-- `repack::sizes::parts_size` meets its contract.
use Rattle.repack.proofs.Sums.{parts-sum, parts-fit, two-fit}
use Rattle.repack.proofs.sizes.parts_size.Goals as goal

pub overflow_add-result : goal.overflow_add-result
overflow_add-result c = search two-fit

pub overflow_add-result-2 : goal.overflow_add-result-2
overflow_add-result-2 c = search parts-fit

pub returns : goal.returns
returns c = search parts-sum
