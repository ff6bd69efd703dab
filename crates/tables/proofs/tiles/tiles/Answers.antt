-- `tables::tiles::tiles` meets its contract.
use native.Mathlib.Omega.{arith}
use Rattle.format.proofs.Answering.{accepted}
use Rattle.std.proofs.lemmas.Result.{err_from_is_err_and}
use Rattle.judge.proofs.AcceptedFile.{accepted-file}
use Rattle.tables.specs.Tables.{tiles_verdict}
use Rattle.tables.proofs.Filling.{tiles-few, tiles-short, tiles-enough}
use Rattle.tables.proofs.Answering.{file-refused, file-kept, too_short, short-kept, enough, enough-filled}
use Rattle.tables.proofs.tiles.tiles.Goals as goal

pub tile_count-n-requires : goal.tile_count-n-requires
tile_count-n-requires c = search (accepted-file, c.in_ok-judge.was)

pub too_short-requires : goal.too_short-requires
too_short-requires c = (search (tiles-few, accepted-file, c.in_ok-judge.was), omega arith, omega arith)

pub returns-then-too_short : goal.returns-then-too_short
unfolding tiles_verdict
returns-then-too_short c = record { table_answered = search (too_short, tiles-short, c.in_ok-judge.was); tile_arrays = search (short-kept, tiles-short, c.in_ok-judge.was) }

pub put_tiles-requires : goal.put_tiles-requires
put_tiles-requires c = search (accepted, tiles-enough, c.in_ok-judge.was)

pub returns-in_err-judge : goal.returns-in_err-judge
unfolding tiles_verdict
returns-in_err-judge c =
    let p = err_from_is_err_and c.from_residual.result c.from_residual.ensures.1 in
    rw (p.1, p.2) (record { table_answered = search (file-refused, c.in_err-judge.was); tile_arrays = search (file-kept, c.in_err-judge.was) })

pub returns : goal.returns
unfolding tiles_verdict
returns c = record { table_answered = search (enough, tiles-short, c.in_ok-judge.was); tile_arrays = search (enough-filled, tiles-short, c.in_ok-judge.was) }
