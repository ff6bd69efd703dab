-- `parts::tile` meets its contract.
use Rattle.std.proofs.lemmas.Result.{err_from_is_err_and}
use Rattle.format.proofs.Answering.{value-refused}
use Rattle.parts.proofs.Numbered.{tile-fixed, tile-file, tile-below, judged-at}
use Rattle.parts.proofs.Parts.{record-found}
use Rattle.parts.proofs.tile.Goals as goal

pub entry_place-e-requires : goal.entry_place-e-requires
entry_place-e-requires c = search (tile-file, tile-below, c.in_ok-tile_refusal.was)

pub file_position-q-requires : goal.file_position-q-requires
file_position-q-requires c = search (tile-fixed, tile-file, tile-below, c.in_ok-tile_refusal.was)

pub tile_at-requires : goal.tile_at-requires
tile_at-requires c = search (judged-at, c.in_ok-tile_refusal.was)

pub returns-in_err-tile_refusal : goal.returns-in_err-tile_refusal
returns-in_err-tile_refusal c =
    let p = err_from_is_err_and c.from_residual.result c.from_residual.ensures.1 in
    rw (p.1, p.2) (search (value-refused, c.in_err-tile_refusal.was))

pub returns : goal.returns
returns c = search (record-found, c.in_ok-tile_refusal.was)
