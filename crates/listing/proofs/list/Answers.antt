-- `listing::list` meets its contract.
use Rattle.std.proofs.Common.{◌∙◌, arith, rules}
use Rattle.format.proofs.Answering.{accepted}
use Rattle.judge.proofs.AcceptedFile.{accepted-file}
use Rattle.listing.proofs.Texts.{listing-long, listing-refused, listing-accepted}
use Rattle.listing.proofs.list.Goals as goal

pub returns-then-s-gt65536 : goal.returns-then-s-gt65536
returns-then-s-gt65536 c = c.refusal_text.ensures ∙ listing-long _ _ (omega arith)

pub summary_of-requires : goal.summary_of-requires
summary_of-requires c = search accepted-file

pub returns-in-Err : goal.returns-in-Err
returns-in-Err c =
    let v = c.judge.ensures.answer_is in
    search (listing-refused, rules)

pub returns-in-Ok : goal.returns-in-Ok
returns-in-Ok c = c.summary_text.ensures ∙ rw c.summary_of.ensures (listing-accepted _ _ (omega arith) (accepted c.judge.ensures c.in-Ok.is))
