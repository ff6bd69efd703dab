-- `markup::section::is_container` meets its contract.
use Rattle.std.proofs.Common.{ap, ◌||◌}
use Rattle.markup.proofs.Walking.{walk-start, broken, less, too_many, walk-opened, none_open, other_name, walk-closed, walk-text, walk-other, still_open, all_closed}
use Rattle.markup.proofs.Sections.{was-said}
use Rattle.markup.proofs.section.is_container.Goals as goal

pub loop-rest-init : goal.loop-rest-init
loop-rest-init c = rw c.new-tags.ensures (walk-start _ _ _ _ c.part-rest.ensures.bytes)

pub returns-in_default : goal.returns-in_default
returns-in_default c = broken _ _ _ _ _ c.loop-rest.invariant c.loop-rest-test.ensures c.in_default.ensures

pub returns-then-is_full : goal.returns-then-is_full
returns-then-is_full c =
    too_many _ _ _ _ _ c.loop-rest.invariant _ _ c.loop-rest-test.ensures c.in-Some.ensures _ c.in-Start.is c.if-is_full.ensures.value

pub loop-rest-smaller-in-Start : goal.loop-rest-smaller-in-Start
loop-rest-smaller-in-Start c = less _ _ _ _ _ c.loop-rest.invariant _ _ c.loop-rest-test.ensures c.in-Some.ensures

pub loop-rest-preserved-in-Start : goal.loop-rest-preserved-in-Start
loop-rest-preserved-in-Start c =
    walk-opened _ _ _ _ _ c.loop-rest.invariant _ _ c.loop-rest-test.ensures c.in-Some.ensures _ c.in-Start.is c.if-is_full.ensures.value c.is_full.ensures.few _ c.push.ensures _
    c.start_stage-stage.ensures

pub returns-in_default-pop : goal.returns-in_default-pop
returns-in_default-pop c =
    none_open _ _ _ _ _ c.loop-rest.invariant _ _ c.loop-rest-test.ensures c.in-Some.ensures _ c.in-Close.is c.in_default-pop.ensures.0

pub returns-then-ne : goal.returns-then-ne
returns-then-ne c =
    other_name _ _ _ _ _ c.loop-rest.invariant _ _ c.loop-rest-test.ensures c.in-Some.ensures _ _ _ c.in-Close.is c.in-Some-pop.ensures c.if-ne.ensures

pub loop-rest-smaller-in-Close : goal.loop-rest-smaller-in-Close
loop-rest-smaller-in-Close c = less _ _ _ _ _ c.loop-rest.invariant _ _ c.loop-rest-test.ensures c.in-Some.ensures

pub loop-rest-preserved-in-Close : goal.loop-rest-preserved-in-Close
loop-rest-preserved-in-Close c =
    walk-closed _ _ _ _ _ c.loop-rest.invariant _ _ c.loop-rest-test.ensures c.in-Some.ensures _ _ _ c.in-Close.is c.in-Some-pop.ensures c.if-ne.ensures _
    (ap (λ r. c.loop-rest.found || r) (was-said _ _ c.eq-found.ensures))

pub loop-rest-smaller-in-Text : goal.loop-rest-smaller-in-Text
loop-rest-smaller-in-Text c = less _ _ _ _ _ c.loop-rest.invariant _ _ c.loop-rest-test.ensures c.in-Some.ensures

pub loop-rest-preserved-in-Text : goal.loop-rest-preserved-in-Text
loop-rest-preserved-in-Text c =
    walk-text _ _ _ _ _ c.loop-rest.invariant _ _ c.loop-rest-test.ensures c.in-Some.ensures _ c.in-Text.is _ c.text_stage-stage.ensures

pub loop-rest-smaller : goal.loop-rest-smaller
loop-rest-smaller c = less _ _ _ _ _ c.loop-rest.invariant _ _ c.loop-rest-test.ensures c.in-Some.ensures

pub loop-rest-preserved : goal.loop-rest-preserved
loop-rest-preserved c = walk-other _ _ _ _ _ c.loop-rest.invariant _ _ c.loop-rest-test.ensures c.in-Some.ensures c.in-Empty.is

pub returns-then-is_empty : goal.returns-then-is_empty
returns-then-is_empty c = all_closed _ _ _ _ _ c.loop-rest.invariant c.loop-rest-test.ensures c.if-is_empty.ensures

pub returns-else-is_empty : goal.returns-else-is_empty
returns-else-is_empty c = still_open _ _ _ _ _ c.loop-rest.invariant c.loop-rest-test.ensures _ c.is_empty-2.ensures c.if-is_empty.false
