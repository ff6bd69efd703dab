-- `parts::common_xml` meets its contract.
use Rattle.parts.proofs.Within.{answered-within, answered-view, xml-within}
use Rattle.parts.proofs.common_xml.Goals as goal

pub view_of-requires : goal.view_of-requires
view_of-requires c = search (answered-within, xml-within)

pub returns : goal.returns
returns c = search answered-view
