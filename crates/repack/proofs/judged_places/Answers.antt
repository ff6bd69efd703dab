-- `repack::judged_places` meets its contract.
use Rattle.std.proofs.lemmas.Result.{err_from_is_err_and}
use Rattle.judge.proofs.AcceptedFile.{accepted-file}
use Rattle.repack.proofs.Answering.{places-refused, places-large, placed}
use Rattle.repack.proofs.judged_places.Goals as goal

pub new_places-places-requires : goal.new_places-places-requires
new_places-places-requires c = search (accepted-file, c.in_ok-judge.was)

pub too_large-requires : goal.too_large-requires
too_large-requires c = search (accepted-file, c.in_ok-judge.was)

pub returns-in_err-judge : goal.returns-in_err-judge
returns-in_err-judge c =
    let p = err_from_is_err_and c.from_residual.result c.from_residual.ensures.1 in rw (p.1, p.2) (search (places-refused, c.in_err-judge.was))

pub returns-then-too_large : goal.returns-then-too_large
returns-then-too_large c = search (places-large, c.in_ok-judge.was)

pub returns : goal.returns
returns c = search (placed, c.in_ok-judge.was)
