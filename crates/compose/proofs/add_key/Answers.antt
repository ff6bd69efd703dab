-- `compose::add_key` meets its contract.
use Rattle.compose.proofs.Gathering.{edges-read}
use Rattle.compose.proofs.add_key.Goals as goal

pub meets_window-requires : goal.meets_window-requires
meets_window-requires c = edges-read _ _ (c.requires.listed c.if-e-eq0.false) c.rectangle_of.ensures c.requires.edges
