-- `bits::bit_at` meets its contract.
use borrow.Author.Rules.{rules}
use Rattle.plane.specs.Paint.{bit, bit_in}
use Rattle.bits.proofs.bit_at.Goals as goal

pub returns : goal.returns
unfolding bit bit_in
returns c = search rules
