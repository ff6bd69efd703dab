-- `markup::items::behind_first` meets its contract.
use Rattle.std.proofs.Common.{sym, ◌∙◌, arith}
use Rattle.markup.proofs.Beginning.{slice-first, slice-other, first-cut}
use Rattle.markup.proofs.items.behind_first.Goals as goal

pub returns-then-bytes-size : goal.returns-then-bytes-size
returns-then-bytes-size c = sym (first-cut _ c.args.bytes.now 0 (omega arith))

pub returns-then-eq : goal.returns-then-eq
returns-then-eq c = slice-first _ _ _ (omega arith) c.if-eq.ensures ∙ sym c.loop-at.invariant

pub loop-at-preserved : goal.loop-at-preserved
loop-at-preserved c = c.loop-at.invariant ∙ slice-other _ _ _ (omega arith) c.if-eq.ensures

pub returns : goal.returns
returns c = sym (c.loop-at.invariant ∙ first-cut c.args.closer.now c.args.bytes.now c.loop-at.at (omega arith))
