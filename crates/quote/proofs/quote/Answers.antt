-- `quote::quote` meets its contract.
use Rattle.std.proofs.lemmas.Result.{err_from_is_err_and}
use Rattle.quote.proofs.Quoting.{pitched, quote-refused, quote-settled}
use Rattle.quote.proofs.quote.Goals as goal

pub returns-in_err-x : goal.returns-in_err-x
returns-in_err-x c =
    let p = err_from_is_err_and c.from_residual.result c.from_residual.ensures.1 in rw (p.1, p.2) (search (quote-refused, c.in_err-x.was))

pub quote_by-requires : goal.quote_by-requires
quote_by-requires c = search (pitched, c.in_ok-x.was)

pub returns : goal.returns
returns c = search (quote-settled, c.in_ok-x.was)
