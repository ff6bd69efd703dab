-- `counting::mark_at` meets its contract.
use Rattle.counting.proofs.Marking.{not_selected, apart, sharing, edges}
use Rattle.counting.proofs.mark_at.Goals as goal

pub returns-then-not-is_selected : goal.returns-then-not-is_selected
returns-then-not-is_selected c = search not_selected

pub shares_pixel-requires : goal.shares_pixel-requires
shares_pixel-requires c = edges _ _ _ _ c.requires.listed c.rectangle_of.ensures c.requires.width_bound

pub returns-then-not-shares_pixel : goal.returns-then-not-shares_pixel
returns-then-not-shares_pixel c = search apart

pub returns-else-not-shares_pixel : goal.returns-else-not-shares_pixel
returns-else-not-shares_pixel c = search sharing
