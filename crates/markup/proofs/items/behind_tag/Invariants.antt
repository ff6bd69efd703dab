use Rattle.std.proofs.Common.{◌≡◌, length}
use Rattle.format.specs.Markup.{behind_tag}
use Rattle.markup.proofs.items.behind_tag.Given as goal

abbrev pub invariant-loop-b : goal.invariant-loop-b
invariant-loop-b l = behind_tag 0 0 l.bytes ≡ behind_tag 0 l.last l.rest

abbrev pub decreases-loop-b : goal.decreases-loop-b
decreases-loop-b l = length l.rest
