-- `judge::tile_count` meets its contract.
use Rattle.format.specs.Directory.{tile_count}
use Rattle.judge.proofs.AcceptedFile.{accepted-long, accepted-count}
use Rattle.judge.proofs.tile_count.Goals as goal

pub directory_position-requires : goal.directory_position-requires
unfolding tile_count
directory_position-requires c = search accepted-long

pub entry_count-requires : goal.entry_count-requires
unfolding tile_count
entry_count-requires c = search accepted-count

pub returns : goal.returns
unfolding tile_count
returns c = cc
