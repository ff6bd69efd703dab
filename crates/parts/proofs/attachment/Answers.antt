-- `parts::attachment` meets its contract.
use Prim.Native.Nat.{◌+◌, ◌≤◌}
use lib.ListN.{length}
use Rattle.format.specs.Attachments.{attachment_data_size}
use native.Mathlib.Omega.{arith}
use Rattle.std.proofs.lemmas.Result.{err_from_is_err_and}
use Rattle.format.proofs.Answering.{value-refused}
use Rattle.judge.proofs.AcceptedFile.{accepted-long}
use Rattle.parts.proofs.Numbered.{annex-file, annex-below, annex-small, annex-in, data-in, annex-is, annex-at}
use Rattle.parts.proofs.Parts.{annex-found}
use Rattle.parts.proofs.attachment.Goals as goal
use Rattle.parts.proofs.attachment.Goals.{After-attachment_position-position}

pub attachment_directory_position-directory-requires : goal.attachment_directory_position-directory-requires
attachment_directory_position-directory-requires c = search (accepted-long, annex-file, c.in_ok-attachment_refusal.was)

pub attachment_entry-place-requires : goal.attachment_entry-place-requires
attachment_entry-place-requires c = search (annex-small, annex-file, annex-below, c.in_ok-attachment_refusal.was)

pub attachment_position-position-requires : goal.attachment_position-position-requires
attachment_position-position-requires c =
    annex-in c.args.s.now (search (annex-file, c.in_ok-attachment_refusal.was)) c.args.n (search (annex-below, c.in_ok-attachment_refusal.was)) _ (search annex-is)

-- the data lie in the file
data_in : (c : After-attachment_position-position)
    → c.attachment_position-position.result + 288 + attachment_data_size c.args.s.now c.attachment_position-position.result ≤ length c.args.s.now
data_in c =
    data-in c.args.s.now (search (annex-file, c.in_ok-attachment_refusal.was)) c.args.n (search (annex-below, c.in_ok-attachment_refusal.was)) _ (search annex-at)

pub overflow_add-result : goal.overflow_add-result
overflow_add-result c = omega (arith, data_in c)

pub attachment_data_size-requires : goal.attachment_data_size-requires
attachment_data_size-requires c = omega (arith, data_in c)

pub returns-in_err-attachment_refusal : goal.returns-in_err-attachment_refusal
returns-in_err-attachment_refusal c =
    let p = err_from_is_err_and c.from_residual.result c.from_residual.ensures.1 in
    rw (p.1, p.2) (search (value-refused, c.in_err-attachment_refusal.was))

pub returns : goal.returns
returns c = search (annex-found, annex-is, annex-at, c.in_ok-attachment_refusal.was)
