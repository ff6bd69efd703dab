-- `Row::paint_open` meets its contract.
use Rattle.paint.proofs.Steps.{open-all}
use Rattle.paint.proofs.Row.paint_open.Goals as goal

pub returns-in-None : goal.returns-in-None
returns-in-None c = search open-all
