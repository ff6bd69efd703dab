-- `selection::tile_start` meets its contract.
use Rattle.entries.proofs.EntryLaws.{letter-in}
use Rattle.selection.proofs.tile_start.Goals as goal

pub biased_start-requires : goal.biased_start-requires
biased_start-requires c = search letter-in
