-- `czi::quotes::czi_quote` meets its contract.
use Rattle.czi.proofs.Out.{quote-said, quote-out}
use Rattle.czi.proofs.quotes.czi_quote.Goals as goal

pub returns : goal.returns
returns c =
    quote-out (quote-said c.quote-answer.ensures c.release_of-by.ensures c.request_of-f.ensures c.ranges.left.sfits c.ranges.top.sfits)
    c.number_in.ensures c.place_in.ensures c.unwrap_or-figures.ensures
