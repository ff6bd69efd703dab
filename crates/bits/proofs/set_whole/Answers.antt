-- `bits::set_whole` meets its contract.
use mathlib.Core.Path.{refl, sym, ◌∙◌}
use native.Mathlib.Omega.{arith}
use borrow.Author.Rules.{rules}
use Rattle.bits.proofs.Ranges.{marked-ext, marked-none, range-then}
use Rattle.bits.proofs.set_whole.Goals as goal

pub loop-i-init : goal.loop-i-init
loop-i-init c = sym (marked-none _ (λ k. search rules) _)

pub loop-i-preserved : goal.loop-i-preserved
loop-i-preserved c =
    range-then c.args.map.now (λ k. search rules) (omega arith) (omega arith) (omega arith) c.loop-i.invariant c.set_part.ensures
    ∙ marked-ext c.args.map.now refl (omega arith)

pub returns : goal.returns
returns c = c.loop-i.invariant ∙ marked-ext c.args.map.now refl (omega arith)
