use Rattle.std.proofs.Common.{◌≡◌, length}
use Rattle.format.specs.Container.{is_container}
use Rattle.markup.specs.Stages.{number}
use Rattle.markup.proofs.Walking.{decides}
use Rattle.markup.proofs.section.is_container.Given as goal

abbrev pub invariant-loop-rest : goal.invariant-loop-rest
invariant-loop-rest l = is_container l.s l.p l.n ≡ decides l.found (number l.stage) l.tags l.rest

abbrev pub decreases-loop-rest : goal.decreases-loop-rest
decreases-loop-rest l = length l.rest
