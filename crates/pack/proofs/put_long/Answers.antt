-- `pack::put_long` meets its contract.
use mathlib.Core.Path.{◌∙◌}
use Rattle.pack.proofs.Puts.{long_here}
use Rattle.pack.proofs.put_long.Goals as goal

pub returns : goal.returns
returns c = long_here c.args.out.now _ c.args.p c.args.x (c.copy_from_slice.ensures.after ∙ c.to_le_bytes.ensures)
