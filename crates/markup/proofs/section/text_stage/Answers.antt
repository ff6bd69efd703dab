-- `markup::section::text_stage` meets its contract.
use Rattle.format.specs.Names.{text_container}
use Rattle.markup.proofs.Sections.{text-said, text-other, text-late}
use Rattle.markup.proofs.section.text_stage.Goals as goal
use Rattle.markup.proofs.section.text_stage.Goals.{else-eq-via-then-eq+else-eq-2, else-eq-via-else-eq}

pub returns-then-eq-2 : goal.returns-then-eq-2
unfolding text_container
returns-then-eq-2 c = text-said _ _ _ c.as_slice.ensures c.if-eq.ensures c.if-eq-2.ensures

pub returns-else-eq : goal.returns-else-eq
unfolding text_container
returns-else-eq c =
    elim c.else-eq.branch [
      | else-eq-via-then-eq+else-eq-2 w ↦ text-other _ _ _ w.as_slice.ensures w.if-eq-2.ensures
      | else-eq-via-else-eq w ↦ text-late _ _ w.if-eq.ensures
    ]
