-- `tables::dimensions::dimensions` meets its contract.
use Rattle.std.proofs.lemmas.Result.{err_from_is_err_and}
use Rattle.judge.proofs.AcceptedFile.{accepted-file}
use Rattle.tables.specs.Tables.{dimensions_verdict}
use Rattle.tables.proofs.Filling.{total-is, total-short, total-enough, total-rows}
use Rattle.tables.proofs.Answering.{file-refused, file-kept, too_short, short-kept, enough, enough-filled}
use Rattle.tables.proofs.dimensions.dimensions.Goals as goal

pub tile_count-n-requires : goal.tile_count-n-requires
tile_count-n-requires c = search (accepted-file, c.in_ok-judge.was)

pub dimension_total-total-requires : goal.dimension_total-total-requires
dimension_total-total-requires c = search (accepted-file, c.in_ok-judge.was)

pub returns-then-too_short : goal.returns-then-too_short
unfolding dimensions_verdict
returns-then-too_short c = record { table_answered = search (too_short, total-short, c.in_ok-judge.was); dimension_arrays = search (short-kept, total-short, c.in_ok-judge.was) }

pub put_dimensions-requires : goal.put_dimensions-requires
put_dimensions-requires c = search (accepted-file, total-enough, c.in_ok-judge.was)

pub returns-in_err-judge : goal.returns-in_err-judge
unfolding dimensions_verdict
returns-in_err-judge c =
    let p = err_from_is_err_and c.from_residual.result c.from_residual.ensures.1 in
    rw (p.1, p.2) (record { table_answered = search (file-refused, c.in_err-judge.was); dimension_arrays = search (file-kept, c.in_err-judge.was) })

pub returns : goal.returns
unfolding dimensions_verdict
returns c = record { table_answered = search (enough, total-is, total-short, c.in_ok-judge.was); dimension_arrays = search (enough-filled, total-short, total-rows, c.in_ok-judge.was) }
