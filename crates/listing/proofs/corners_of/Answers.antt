-- `listing::corners_of` meets its contract.
use Rattle.judge.proofs.AcceptedFile.{accepted-long, accepted-entries}
use Rattle.judge.proofs.EntryLoop.{at-fixed, at-whole, at-dimensions}
use Rattle.listing.proofs.Boxes.{boxing-start, boxing-next, boxing-end}
use Rattle.listing.proofs.corners_of.Goals as goal

pub first_entry-e-requires : goal.first_entry-e-requires
first_entry-e-requires c = search (accepted-long, accepted-entries)

pub loop-init : goal.loop-init
loop-init c = search boxing-start

pub with_tile-corners-requires : goal.with_tile-corners-requires
with_tile-corners-requires c = search (at-whole, at-dimensions)

pub next_entry-e-requires : goal.next_entry-e-requires
next_entry-e-requires c = search at-fixed

pub loop-preserved : goal.loop-preserved
loop-preserved c = search boxing-next

pub returns : goal.returns
returns c = search boxing-end
