-- `markup::items::skip` meets its contract.
use Rattle.std.proofs.Math.Option.{Option-elim}
use Rattle.markup.specs.Items.{skipped_behind}
use Rattle.markup.proofs.items.skip.Goals as goal

pub returns-in_err-rest : goal.returns-in_err-rest
unfolding skipped_behind Option-elim
returns-in_err-rest c = rw (c.from_residual.ensures, ← c.in_err-rest.ensures)

pub returns : goal.returns
unfolding skipped_behind Option-elim
returns c = rw (← c.in_ok-rest.ensures)
