-- `pack::put_zeros` meets its contract.
use Rattle.pack.proofs.Puts.{zeros_here}
use Rattle.pack.proofs.put_zeros.Goals as goal

pub returns : goal.returns
returns c = zeros_here c.args.out.now _ c.args.p c.args.n c.requires (c.fill.ensures.after (λ y e. e))
