-- `Row::paint_pixel` meets its contract.
use Rattle.paint.proofs.Steps.{lent-bytes, pixel-left, pixel-given}
use Rattle.paint.proofs.Row.paint_pixel.Goals as goal

pub returns-then-is_given : goal.returns-then-is_given
returns-then-is_given c = search pixel-given

pub returns-else-is_given : goal.returns-else-is_given
returns-else-is_given c = search (pixel-left, lent-bytes)
