-- `listing::tile_corners` meets its contract.
use native.Mathlib.Omega.{arith}
use Rattle.entries.proofs.EntryLaws.{x-in, y-in, dimensions-ok}
use Rattle.listing.specs.Summary.{near_edge, far_edge}
use Rattle.listing.specs.Figures.{tile_corners}
use Rattle.listing.proofs.tile_corners.Goals as goal

pub biased_start-left-requires : goal.biased_start-left-requires
biased_start-left-requires c = search (x-in, y-in)

pub biased_start-top-requires : goal.biased_start-top-requires
biased_start-top-requires c = search (x-in, y-in)

pub size_at-requires : goal.size_at-requires
size_at-requires c = search (x-in, y-in)

pub size_at-requires-2 : goal.size_at-requires-2
size_at-requires-2 c = search (x-in, y-in)

pub overflow_cast-result-3 : goal.overflow_cast-result-3
overflow_cast-result-3 c =
    let end = (dimensions-ok c.args.s.now c.args.e c.requires.1).x-sized.end in omega (arith, rw (← c.letter_place-x.ensures) at end)

pub overflow_cast-result-4 : goal.overflow_cast-result-4
overflow_cast-result-4 c =
    let end = (dimensions-ok c.args.s.now c.args.e c.requires.1).y-sized.end in omega (arith, rw (← c.letter_place-y.ensures) at end)

pub returns : goal.returns
unfolding tile_corners near_edge far_edge
returns c = cc (c.biased_start-left.ensures.0, c.biased_start-top.ensures.0, c.size_at.ensures.0, c.size_at-2.ensures.0)
