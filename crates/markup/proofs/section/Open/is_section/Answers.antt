-- `Open::is_section` meets its contract.
use Rattle.std.proofs.Common.{refl, take}
use Rattle.format.specs.Names.{tag_metadata, tag_schema, tag_format}
use Rattle.markup.proofs.Sections.{is-section}
use Rattle.markup.proofs.section.Open.is_section.Goals as goal

pub returns : goal.returns
unfolding tag_metadata tag_schema tag_format
returns c = is-section _ _ _ refl refl refl (take c.self.inside.depth c.self.inside.names) _ c.self.view_is _ c.eq.ensures
