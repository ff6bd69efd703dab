-- `parts::tile_metadata_span` meets its contract.
use Rattle.std.proofs.lemmas.Result.{err_from_is_err_and}
use Rattle.format.specs.Records.{tile_metadata}
use Rattle.format.proofs.Answering.{span-refused}
use Rattle.parts.proofs.Numbered.{tile-fixed, tile-file, tile-below, filled_at}
use Rattle.parts.proofs.Parts.{metadata-found}
use Rattle.parts.proofs.tile_metadata_span.Goals as goal

pub entry_place-e-requires : goal.entry_place-e-requires
entry_place-e-requires c = search (tile-file, tile-below, c.in_ok-tile_refusal.was)

pub file_position-q-requires : goal.file_position-q-requires
file_position-q-requires c = search (tile-fixed, tile-file, tile-below, c.in_ok-tile_refusal.was)

pub metadata_span-requires : goal.metadata_span-requires
metadata_span-requires c = search (filled_at, c.in_ok-tile_refusal.was)

pub returns-in_err-tile_refusal : goal.returns-in_err-tile_refusal
unfolding tile_metadata
returns-in_err-tile_refusal c =
    let p = err_from_is_err_and c.from_residual.result c.from_residual.ensures.1 in
    rw (p.1, p.2) (search (span-refused, c.in_err-tile_refusal.was))

pub returns : goal.returns
returns c = search (metadata-found, c.in_ok-tile_refusal.was)
