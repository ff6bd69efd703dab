-- `parts::attachment_data_span` meets its contract.
use Rattle.std.proofs.lemmas.Result.{err_from_is_err_and}
use Rattle.format.specs.Records.{attachment_data, attachment_record, attachment_at}
use Rattle.format.specs.declared.Attachment.{Attachment}
use Rattle.parts.proofs.Parts.{part-found, part-refused}
use Rattle.parts.proofs.attachment_data_span.Goals as goal

pub returns-in_err-attachment : goal.returns-in_err-attachment
unfolding attachment_data attachment_record attachment_at
returns-in_err-attachment c =
    let p = err_from_is_err_and c.from_residual.result c.from_residual.ensures.1 in
    rw (p.1, p.2) (part-refused c.attachment.ensures _ c.in_err-attachment.was)

pub returns : goal.returns
unfolding attachment_data attachment_record attachment_at
returns c = part-found c.attachment.ensures (λ (x : Attachment). x.data) c.in_ok-attachment.was
