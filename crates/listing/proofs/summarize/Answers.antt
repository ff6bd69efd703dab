-- `listing::summarize` meets its contract.
use Rattle.std.proofs.lemmas.Result.{err_from_is_err_and}
use Rattle.format.proofs.Answering.{value-refused, value-found}
use Rattle.judge.proofs.AcceptedFile.{accepted-file}
use Rattle.listing.proofs.summarize.Goals as goal

pub summary_of-requires : goal.summary_of-requires
summary_of-requires c = search (accepted-file, c.in_ok-judge.was)

pub returns-in_err-judge : goal.returns-in_err-judge
returns-in_err-judge c =
    let p = err_from_is_err_and c.from_residual.result c.from_residual.ensures.1 in
    rw (p.1, p.2) (search (value-refused, c.in_err-judge.was))

pub returns : goal.returns
returns c = value-found c.judge.ensures c.in_ok-judge.was c.summary_of.ensures
