-- `repack::sizes::sub_block_size` meets its contract.
use native.Mathlib.Omega.{arith}
use Rattle.repack.proofs.Sums.{fixed_from, block-sum, block-fits}
use Rattle.repack.proofs.sizes.sub_block_size.Goals as goal

pub overflow_sub-result : goal.overflow_sub-result
overflow_sub-result c = omega (arith, fixed_from c.args.s.now c.args.e c.args.q c.requires c.metadata_span-metadata.result c.metadata_span-metadata.ensures)

pub overflow_sub-result-2 : goal.overflow_sub-result-2
overflow_sub-result-2 c = omega (arith, fixed_from c.args.s.now c.args.e c.args.q c.requires c.metadata_span-metadata.result c.metadata_span-metadata.ensures)

pub overflow_add-result : goal.overflow_add-result
overflow_add-result c = search block-fits

pub returns : goal.returns
returns c = search block-sum
