-- `markup::items::behind_tag` meets its contract.
use Rattle.std.proofs.Common.{arith}
use Rattle.markup.proofs.Quoting.{rest-ends, rest-breaks, goes-on, goes-behind, quote-open, quote-shorter, rest-cut}
use Rattle.markup.proofs.items.behind_tag.Goals as goal

pub returns-then-b-eq62 : goal.returns-then-b-eq62
returns-then-b-eq62 c = rest-ends _ _ _ _ _ c.loop-b.invariant c.in-Some.ensures.cases.0 c.if-b-eq62.true

pub returns-then-b-eq60 : goal.returns-then-b-eq60
returns-then-b-eq60 c = rest-breaks _ _ _ _ _ c.loop-b.invariant c.in-Some.ensures.cases.0 c.if-b-eq60.true

pub returns-in_err-rest : goal.returns-in_err-rest
returns-in_err-rest c =
    rw c.from_residual.ensures
    (quote-open _ _ _ _ _ c.loop-b.invariant c.in-Some.ensures.cases.0 c.if-b-eq62.false c.if-b-eq60.false c.if-is_quote.ensures c.in_err-rest.ensures)

pub loop-b-smaller-in_ok-rest : goal.loop-b-smaller-in_ok-rest
loop-b-smaller-in_ok-rest c =
    let n = c.in-Some.ensures.cases.1 in
    let l = quote-shorter _ _ _ c.in_ok-rest.ensures in
    omega (arith, n, l)

pub loop-b-preserved-in_ok-rest : goal.loop-b-preserved-in_ok-rest
loop-b-preserved-in_ok-rest c =
    goes-behind _ _ _ _ _ c.loop-b.invariant c.in-Some.ensures.cases.0 c.if-b-eq62.false c.if-b-eq60.false c.if-is_quote.ensures _ c.in_ok-rest.ensures

pub loop-b-preserved : goal.loop-b-preserved
loop-b-preserved c = goes-on _ _ _ _ _ c.loop-b.invariant c.in-Some.ensures.cases.0 c.if-b-eq62.false c.if-b-eq60.false c.if-is_quote.ensures

pub returns : goal.returns
returns c = rest-cut _ _ _ c.loop-b.invariant c.in_default.ensures.cases
