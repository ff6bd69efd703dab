-- `segments::walk` meets its contract.
use mathlib.Core.Path.{refl, sym, ◌∙◌}
use borrow.Author.Rules.{rules}
use Rattle.format.specs.Segments.{segments_rows, walked}
use Rattle.format.proofs.SegmentLaws.{length-ok}
use Rattle.segments.proofs.walk.Goals as goal

pub returns-then-length_bad : goal.returns-then-length_bad
unfolding segments_rows walked
returns-then-length_bad c = rw (sym c.length_bad.ensures ∙ c.if-length_bad.true) (record { answer_is = refl; table_is = refl })

pub walk_segments-requires : goal.walk_segments-requires
walk_segments-requires c = record { s_len = (length-ok _ (sym c.length_bad.ensures ∙ c.if-length_bad.false)).whole; table_len = search rules }

pub returns : goal.returns
unfolding segments_rows walked
returns c = rw (sym c.length_bad.ensures ∙ c.if-length_bad.false) c.walk_segments.ensures
