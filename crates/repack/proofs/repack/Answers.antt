-- `repack::repack` meets its contract.
use Rattle.std.proofs.lemmas.Result.{err_from_is_err_and}
use Rattle.repack.proofs.Answering.{repack-refused, refused-kept, repack-short, short-kept, repack-room, repack-done, done-put}
use Rattle.repack.proofs.repack.Goals as goal

pub returns-in_err-places : goal.returns-in_err-places
returns-in_err-places c =
    let p = err_from_is_err_and c.from_residual.result c.from_residual.ensures.1 in
    rw (p.1, p.2)
    (record { repack_answered = search (repack-refused, c.in_err-places.ensures); out_after = search (refused-kept, c.in_err-places.ensures) })

pub returns-then-out-places : goal.returns-then-out-places
returns-then-out-places c =
    record { repack_answered = search (repack-short, c.in_ok-places.ensures); out_after = search (short-kept, c.in_ok-places.ensures) }

pub put_new_file-requires : goal.put_new_file-requires
put_new_file-requires c = search (repack-room, c.in_ok-places.ensures)

pub returns : goal.returns
returns c =
    record { repack_answered = search (repack-done, c.in_ok-places.ensures); out_after = search (done-put, c.in_ok-places.ensures) }
