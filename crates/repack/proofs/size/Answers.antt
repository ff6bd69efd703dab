-- `repack::size` meets its contract.
use Rattle.std.proofs.lemmas.Result.{err_from_is_err_and}
use Rattle.repack.proofs.Answering.{size-refused, size-done}
use Rattle.repack.proofs.size.Goals as goal

pub returns-in_err-places : goal.returns-in_err-places
returns-in_err-places c =
    let p = err_from_is_err_and c.from_residual.result c.from_residual.ensures.1 in rw (p.1, p.2) (search (size-refused, c.in_err-places.ensures))

pub returns : goal.returns
returns c = search (size-done, c.in_ok-places.ensures)
