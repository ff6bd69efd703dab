-- `bits::set_range` meets its contract.
use mathlib.Core.Path.{◌∙◌}
use Prim.Native.Nat.{◌/◌}
use native.Mathlib.Omega.{arith}
use borrow.Author.Rules.{rules}
use Rattle.bits.proofs.Ranges.{marked-ext, range-then}
use Rattle.bits.proofs.set_range.Goals as goal

pub returns-then-k-j : goal.returns-then-k-j
returns-then-k-j c =
    let a = c.args in
    c.set_part.ensures ∙ marked-ext a.map.now (omega arith) (omega arith)

pub returns-else-k-j : goal.returns-else-k-j
returns-else-k-j c =
    let a = c.args in
    let m = a.map.now in
    let k = a.from / 8 in
    let j = a.to / 8 in
    range-then m (λ k. search rules) (omega arith) (omega arith) (omega arith)
    (range-then m (λ k. search rules) (omega arith) (omega arith) (omega arith)
    c.set_part-else-k-j.ensures c.set_whole.ensures) c.set_part-else-k-j-2.ensures
    ∙ marked-ext m (omega arith) (omega arith)
