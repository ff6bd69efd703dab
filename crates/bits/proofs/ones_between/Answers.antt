-- `bits::ones_between` meets its contract.
use Rattle.bits.proofs.Bitwise.{run-lt, run-packs}
use Rattle.bits.proofs.ones_between.Goals as goal

pub overflow_cast-result-3 : goal.overflow_cast-result-3
overflow_cast-result-3 c = record { fits = run-lt c.args.s c.args.t c.requires.0 }

pub returns : goal.returns
returns c = run-packs c.args.s c.args.t c.requires.0
