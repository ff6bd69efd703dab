-- `parts::dimension_refusal` meets its contract.
use Rattle.std.proofs.lemmas.Result.{err_from_is_err_and}
use Rattle.format.specs.Rules.{tile_verdict}
use Rattle.format.proofs.Flags.{le_yes, le-no}
use Rattle.parts.proofs.Numbered.{refused-before, no_such, is-there, tile-file, tile-below, tile-fixed, dimension-asked}
use Rattle.parts.proofs.dimension_refusal.Goals as goal

pub entry_place-requires : goal.entry_place-requires
unfolding tile_verdict
entry_place-requires c = search (tile-file, tile-below, c.in_ok-tile_refusal.was)

pub dimension_count-requires : goal.dimension_count-requires
unfolding tile_verdict
dimension_count-requires c = search (tile-fixed, tile-file, tile-below, c.in_ok-tile_refusal.was)

pub returns-then-dimension_count-k : goal.returns-then-dimension_count-k
unfolding tile_verdict
returns-then-dimension_count-k c = rw (dimension-asked, ← c.entry_place.ensures) (search (no_such, le_yes, c.in_ok-tile_refusal.was))

pub returns-in_err-tile_refusal : goal.returns-in_err-tile_refusal
unfolding tile_verdict
returns-in_err-tile_refusal c =
    let p = err_from_is_err_and c.from_residual.result c.from_residual.ensures.1 in
    rw (p.1, p.2) (rw dimension-asked (search (refused-before, c.in_err-tile_refusal.was)))

pub returns : goal.returns
unfolding tile_verdict
returns c = rw (dimension-asked, ← c.entry_place.ensures) (search (is-there, le-no, c.in_ok-tile_refusal.was))
