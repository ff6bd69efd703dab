-- `entries::most_size` meets its contract.
use mathlib.Core.Path.{refl}
use borrow.Author.Tests.{eq-eqb, ne_eqb}
use Rattle.format.specs.Entry.{most_size}
use Rattle.format.proofs.Flags.{cond-true, cond-false}
use Rattle.entries.proofs.most_size.Goals as goal

pub returns-then-letter-eq77 : goal.returns-then-letter-eq77
unfolding most_size
returns-then-letter-eq77 c = cond-true _ _ _ _ (eq-eqb _ _ c.if-letter-eq77.true) refl

pub returns-then-letter-eq83 : goal.returns-then-letter-eq83
unfolding most_size
returns-then-letter-eq83 c = cond-false _ _ _ _ (ne_eqb _ _ c.if-letter-eq77.false) (cond-true _ _ _ _ (eq-eqb _ _ c.if-letter-eq83.true) refl)

pub returns : goal.returns
unfolding most_size
returns c = cond-false _ _ _ _ (ne_eqb _ _ c.if-letter-eq77.false) (cond-false _ _ _ _ (ne_eqb _ _ c.if-letter-eq83.false) refl)
