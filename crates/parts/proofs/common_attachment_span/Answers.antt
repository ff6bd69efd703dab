-- `parts::common_attachment_span` meets its contract.
use Rattle.std.proofs.lemmas.Result.{err_from_is_err_and}
use Rattle.format.specs.Records.{common_attachment}
use Rattle.format.proofs.Answering.{span-refused, span-found}
use Rattle.judge.proofs.AcceptedFile.{accepted-file}
use Rattle.parts.proofs.common_attachment_span.Goals as goal

pub xml_attachment_span-requires : goal.xml_attachment_span-requires
xml_attachment_span-requires c = search (accepted-file, c.in_ok-judge.was)

pub returns-in_err-judge : goal.returns-in_err-judge
unfolding common_attachment
returns-in_err-judge c =
    let p = err_from_is_err_and c.from_residual.result c.from_residual.ensures.1 in
    rw (p.1, p.2) (search (span-refused, c.in_err-judge.was))

pub returns : goal.returns
unfolding common_attachment
returns c = search (span-found, c.in_ok-judge.was)
