-- `bits::set_bit` meets its contract.
use mathlib.Core.Path.{◌∙◌}
use borrow.Author.Rules.{rules}
use Rattle.bits.proofs.Ranges.{range-one}
use Rattle.bits.proofs.set_bit.Goals as goal

pub returns : goal.returns
returns c =
    c.or_byte.ensures ∙ range-one c.args.map.now (λ k. search rules) c.args.p
