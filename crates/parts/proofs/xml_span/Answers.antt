-- `parts::xml_span` meets its contract.
use native.Mathlib.Omega.{arith}
use Rattle.format.proofs.Flags.{flags}
use borrow.Author.Tests.{ne_eqb}
use Rattle.format.specs.Records.{xml_span}
use Rattle.judge.proofs.AcceptedFile.{accepted-long}
use Rattle.parts.proofs.Numbered.{xml-in}
use Rattle.parts.proofs.xml_span.Goals as goal

pub metadata_position-m-requires : goal.metadata_position-m-requires
metadata_position-m-requires c = search accepted-long

pub returns-then-m-eq0 : goal.returns-then-m-eq0
unfolding xml_span
returns-then-m-eq0 c = search flags depth 8

pub overflow_add-result : goal.overflow_add-result
overflow_add-result c = omega (arith, xml-in _ c.requires _ c.metadata_position-m.ensures c.if-m-eq0.false)

pub xml_size-requires : goal.xml_size-requires
xml_size-requires c = omega (arith, xml-in _ c.requires _ c.metadata_position-m.ensures c.if-m-eq0.false)

pub returns : goal.returns
unfolding xml_span
returns c = rw (← c.metadata_position-m.ensures, ne_eqb _ _ c.if-m-eq0.false, ← c.xml_size.ensures.0)
