-- `attachments::judge_metadata` meets its contract.
use Rattle.format.proofs.Flags.{is_true, is_false}
use borrow.Author.Tests.{eq-eqb, ne_eqb}
use Rattle.format.specs.Attachments.{metadata_rows}
use Rattle.attachments.proofs.AttachmentLaws.{absent, present, named-room}
use borrow.Author.Rules.{rules}
use Rattle.attachments.proofs.judge_metadata.Goals as goal

pub metadata_position-m-requires : goal.metadata_position-m-requires
unfolding metadata_rows
metadata_position-m-requires c = search rules

pub returns-then-m-eq0 : goal.returns-then-m-eq0
unfolding metadata_rows
returns-then-m-eq0 c = rw (← c.metadata_position-m.ensures) (absent _ _ (eq-eqb _ _ c.if-m-eq0.true))

pub metadata_bad-requires : goal.metadata_bad-requires
unfolding metadata_rows
metadata_bad-requires c = named-room _ _ _ c.metadata_position-m.ensures c.requires.room_in c.if-m-eq0.false

pub returns-then-metadata_bad : goal.returns-then-metadata_bad
unfolding metadata_rows
returns-then-metadata_bad c = rw (← c.metadata_position-m.ensures) (present _ _ _ (ne_eqb _ _ c.if-m-eq0.false) (rw (is_true _ _ c.metadata_bad.ensures c.if-metadata_bad.true)))

pub returns : goal.returns
unfolding metadata_rows
returns c = rw (← c.metadata_position-m.ensures) (present _ _ _ (ne_eqb _ _ c.if-m-eq0.false) (rw (is_false _ _ c.metadata_bad.ensures c.if-metadata_bad.false)))
