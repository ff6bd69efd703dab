-- `bits::set_part` meets its contract.
use mathlib.Core.Path.{sym, ◌∙◌}
use Prim.Native.Nat.{◌*◌}
use native.Mathlib.Omega.{arith}
use borrow.Author.Rules.{rules}
use Rattle.bits.proofs.Ranges.{marked-ext, marked-none, range-part}
use Rattle.bits.proofs.set_part.Goals as goal

pub returns-else-t-gt0 : goal.returns-else-t-gt0
returns-else-t-gt0 c =
    let a = c.args in
    sym (marked-none a.map.now (λ k. search rules) (8 * a.k))
    ∙ marked-ext a.map.now (omega arith) (omega arith)

pub returns-then-t-gt0 : goal.returns-then-t-gt0
returns-then-t-gt0 c =
    let a = c.args in
    c.or_byte.ensures
    ∙ range-part a.map.now (λ k. search rules) a.k a.s a.t (omega arith) c.ones_between.result c.ones_between.ensures
