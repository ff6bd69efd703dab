-- `selection::start_count` meets its contract.
use Rattle.entries.proofs.EntryLaws.{letter-in}
use Rattle.selection.proofs.start_count.Goals as goal

pub size_at-requires : goal.size_at-requires
size_at-requires c = search letter-in
