-- `fields::same_name` meets its contract.
use mathlib.Core.Path.{sym, ◌∙◌}
use native.Mathlib.Omega.{arith}
use Rattle.fields.proofs.Words.{low-differs, high-differs, words-agree}
use Rattle.fields.proofs.same_name.Goals as goal

pub returns-then-u64_at : goal.returns-then-u64_at
returns-then-u64_at c =
    let u = c.u64_at.ensures in
    let v = c.u64_at-2.ensures in
    low-differs _ _ _ c.requires.1 (λ e. c.if-u64_at.true (u ∙ (e ∙ sym v)))

pub returns-then-u64_at-2 : goal.returns-then-u64_at-2
returns-then-u64_at-2 c =
    let u = c.u64_at-3.ensures in
    let v = c.u64_at-4.ensures in
    high-differs _ _ _ c.requires.1 (λ e. c.if-u64_at-2.true (u ∙ (e ∙ sym v)))

pub returns : goal.returns
returns c =
    let low = c in
    words-agree _ _ _ low.requires.1
    (λ i. omega (arith, low.shared_slice_known-1.given i))
    (λ i. omega (arith, low.shared_slice_known-2-1.given i))
    (sym c.u64_at.ensures ∙ (c.if-u64_at.false ∙ c.u64_at-2.ensures))
    (sym c.u64_at-3.ensures ∙ (c.if-u64_at-2.false ∙ c.u64_at-4.ensures))
