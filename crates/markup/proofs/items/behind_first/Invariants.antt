use Rattle.std.proofs.Common.{◌≡◌, drop}
use Rattle.format.specs.Markup.{behind_first}
use Rattle.markup.proofs.items.behind_first.Given as goal

abbrev pub invariant-loop-at : goal.invariant-loop-at
invariant-loop-at l = behind_first l.closer l.bytes ≡ behind_first l.closer (drop l.at l.bytes)
