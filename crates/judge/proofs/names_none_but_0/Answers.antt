-- `judge::names_none_but_0` meets its contract.
use borrow.Author.Tests.{ne_eqb}
use Rattle.format.proofs.Flags.{flags}
use Rattle.format.specs.File.{names_none, names_none_but0}
use Rattle.judge.proofs.names_none_but_0.Goals as goal

pub returns-then-q-eq0 : goal.returns-then-q-eq0
unfolding names_none_but0
returns-then-q-eq0 c = search flags depth 8

pub returns : goal.returns
unfolding names_none_but0 names_none
returns c = rw (ne_eqb _ _ c.if-q-eq0.false, ← c.names.ensures)
