use Rattle.listing.proofs.Boxes.{Boxing}
use Rattle.listing.proofs.corners_of.Given as goal

abbrev pub invariant-loop : goal.invariant-loop
invariant-loop l = Boxing l.s l.n l.corners l.e l.counter
