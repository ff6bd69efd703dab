-- `counting::chosen` meets its contract.
use native.Mathlib.Omega.{arith}
use Rattle.std.proofs.lemmas.Result.{err_from_is_err_and}
use Rattle.judge.proofs.AcceptedFile.{accepted-file}
use Rattle.counting.proofs.Marking.{window-back}
use Rattle.counting.proofs.Answering.{chosen-refused, chosen-short, chosen-found}
use Rattle.counting.proofs.chosen.Goals as goal

pub tile_count-requires : goal.tile_count-requires
tile_count-requires c = search (accepted-file, c.in_ok-judge.was)

pub returns-then-marks-tile_count : goal.returns-then-marks-tile_count
returns-then-marks-tile_count c = search (chosen-short, c.in_ok-judge.was)

pub mark_all-requires : goal.mark_all-requires
mark_all-requires c = record { accepted_file = (search (accepted-file, c.in_ok-judge.was), omega arith); width_bound = (omega arith, omega arith) }

pub returns-in_err-judge : goal.returns-in_err-judge
returns-in_err-judge c =
    let p = err_from_is_err_and c.from_residual.result c.from_residual.ensures.1 in
    rw (p.1, p.2) (search (chosen-refused, c.in_err-judge.was))

pub returns : goal.returns
returns c = search (chosen-found, window-back, c.in_ok-judge.was)
