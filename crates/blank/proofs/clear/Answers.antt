-- `blank::clear` meets its contract.
use native.Mathlib.Omega.{arith}
use Rattle.blank.proofs.Front.{clear_filled}
use Rattle.blank.proofs.clear.Goals as goal

pub returns : goal.returns
returns c =
    clear_filled c.args.n _ c.args.map.now _ (omega arith) (omega arith) (omega arith) (c.fill.ensures.after (λ y e. e))
