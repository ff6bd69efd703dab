-- `parts::xml_attachment_span` meets its contract.
use native.Mathlib.Omega.{arith}
use borrow.Author.Rules.{rules}
use Rattle.format.proofs.Flags.{flags}
use Rattle.format.specs.Records.{xml_attachment_span}
use Rattle.judge.proofs.AcceptedFile.{accepted-long}
use Rattle.parts.proofs.Numbered.{xml-in, behind-in, behind-is}
use Rattle.parts.proofs.xml_attachment_span.Goals as goal

pub metadata_position-m-requires : goal.metadata_position-m-requires
unfolding xml_attachment_span
metadata_position-m-requires c = search accepted-long

pub nothing-requires : goal.nothing-requires
unfolding xml_attachment_span
nothing-requires c = search rules

pub returns-then-m-eq0 : goal.returns-then-m-eq0
unfolding xml_attachment_span
returns-then-m-eq0 c = rw (← c.metadata_position-m.ensures) (search flags depth 8)

pub xml_span-xml-requires : goal.xml_span-xml-requires
unfolding xml_attachment_span
xml_span-xml-requires c = search rules

pub overflow_add-result : goal.overflow_add-result
overflow_add-result c = omega (arith, behind-in _ _ c.metadata_position-m.ensures c.if-m-eq0.false _ c.xml_span-xml.ensures c.requires)

pub xml_attachment_size-requires : goal.xml_attachment_size-requires
unfolding xml_attachment_span
xml_attachment_size-requires c = omega (arith, xml-in _ c.requires _ c.metadata_position-m.ensures c.if-m-eq0.false)

pub returns : goal.returns
unfolding xml_attachment_span
returns c = search behind-is
