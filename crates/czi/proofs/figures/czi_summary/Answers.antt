-- `czi::figures::czi_summary` meets its contract.
use borrow.Author.Rules.{rules}
use Rattle.entries.proofs.ReadBack.{read_back}
use Rattle.czi.proofs.Out.{summary-out}
use Rattle.czi.proofs.figures.czi_summary.Goals as goal

pub returns : goal.returns
returns c =
    rw (← c.release_of.ensures)
    (summary-out c.summarize-answer.ensures c.number_in.ensures c.place_in.ensures c.unwrap_or-s.ensures (search (rules, c.from.ensures)) c.unwrap_or-b.ensures
    (search (rules, read_back)) (search (rules, read_back)) (search (rules, read_back)) (search (rules, read_back)))
