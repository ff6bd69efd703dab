-- `quote::quote_by` meets its contract.
use borrow.Author.Rules.{rules}
use Rattle.std.proofs.lemmas.Result.{err_from_is_err_and}
use Rattle.quote.proofs.Quoting.{by-short, by-refused, count_most, by-written}
use Rattle.quote.proofs.quote_by.Goals as goal

pub returns-then-sheet-lt49 : goal.returns-then-sheet-lt49
returns-then-sheet-lt49 c = search by-short

pub returns-in_err-counts : goal.returns-in_err-counts
returns-in_err-counts c =
    let p = err_from_is_err_and c.from_residual.result c.from_residual.ensures.1 in rw (p.1, p.2) (search (by-refused, c.in_err-counts.was))

pub write_sheet-length-requires : goal.write_sheet-length-requires
write_sheet-length-requires c = search (rules, count_most, c.in_ok-counts.was)

pub returns : goal.returns
returns c = search (by-written, c.in_ok-counts.was)
