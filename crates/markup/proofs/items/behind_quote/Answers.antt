-- `markup::items::behind_quote` meets its contract.
use Rattle.std.proofs.Common.{sym, ◌∙◌, arith}
use Rattle.markup.proofs.Beginning.{first-none}
use Rattle.markup.proofs.Quoting.{quote-closes, quote-later}
use Rattle.markup.proofs.items.behind_quote.Goals as goal

pub returns-then-b-quote : goal.returns-then-b-quote
returns-then-b-quote c = quote-closes _ _ _ c.loop-i-test.true c.if-b-quote.true ∙ sym c.loop-i.invariant

pub loop-i-preserved : goal.loop-i-preserved
loop-i-preserved c = c.loop-i.invariant ∙ quote-later _ _ _ c.loop-i-test.true c.if-b-quote.false

pub returns : goal.returns
returns c = sym (c.loop-i.invariant ∙ first-none _ c.args.bytes.now c.loop-i.i (omega arith))
