-- `repack::sizes::too_large` meets its contract.
use Rattle.repack.proofs.Segments.{large-count, large-end}
use Rattle.repack.proofs.sizes.too_large.Goals as goal

pub returns-then-segment_count-gt8192 : goal.returns-then-segment_count-gt8192
returns-then-segment_count-gt8192 c = search large-count

pub returns-else-segment_count-gt8192 : goal.returns-else-segment_count-gt8192
returns-else-segment_count-gt8192 c = search large-end
