-- `pack::put_part` meets its contract.
use Rattle.pack.proofs.Puts.{part_here}
use Rattle.pack.proofs.put_part.Goals as goal

pub returns : goal.returns
returns c = part_here c.args.out.now c.args.s.now _ c.args.p c.args.q c.args.n c.requires.1 c.copy_from_slice.ensures.after
