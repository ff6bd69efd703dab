-- `parts::attachment_data` meets its contract.
use Rattle.parts.proofs.Within.{answered-within, answered-view, data-within}
use Rattle.parts.proofs.attachment_data.Goals as goal

pub view_of-requires : goal.view_of-requires
view_of-requires c = search (answered-within, data-within)

pub returns : goal.returns
returns c = search answered-view
