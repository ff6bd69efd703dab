-- `parts::dimension` meets its contract.
use Rattle.std.proofs.lemmas.Result.{err_from_is_err_and}
use Rattle.format.proofs.Answering.{value-refused}
use Rattle.parts.proofs.Numbered.{dimension-file, dimension-below, dimension-small, dimension-in}
use Rattle.parts.proofs.Parts.{dimension-record-found}
use Rattle.parts.proofs.dimension.Goals as goal

pub entry_place-e-requires : goal.entry_place-e-requires
entry_place-e-requires c = search (dimension-file, dimension-below, c.in_ok-dimension_refusal.was)

pub dimension_place-requires : goal.dimension_place-requires
dimension_place-requires c = search (dimension-small, c.in_ok-dimension_refusal.was)

pub dimension_at-requires : goal.dimension_at-requires
dimension_at-requires c = search (dimension-in, c.in_ok-dimension_refusal.was)

pub returns-in_err-dimension_refusal : goal.returns-in_err-dimension_refusal
returns-in_err-dimension_refusal c =
    let p = err_from_is_err_and c.from_residual.result c.from_residual.ensures.1 in
    rw (p.1, p.2) (search (value-refused, c.in_err-dimension_refusal.was))

pub returns : goal.returns
returns c = search (dimension-record-found, c.in_ok-dimension_refusal.was)
