-- `bits::or_byte` meets its contract.
use native.Mathlib.Omega.{arith}
use borrow.Author.Rules.{rules}
use Rattle.bits.proofs.Ranges.{or-marks}
use Rattle.bits.proofs.or_byte.Goals as goal

pub returns : goal.returns
returns c =
    let a = c.args in
    or-marks a.map.now (λ k. search rules) a.k a.v c.requires (omega arith)
