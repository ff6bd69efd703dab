-- `parts::common_attachment` meets its contract.
use Rattle.parts.proofs.Within.{answered-within, answered-view, xml-attachment-within}
use Rattle.parts.proofs.common_attachment.Goals as goal

pub view_of-requires : goal.view_of-requires
view_of-requires c = search (answered-within, xml-attachment-within)

pub returns : goal.returns
returns c = search answered-view
