-- `entries::closes_plane` meets its contract.
use Rattle.format.specs.Entry.{closes_plane}
use Rattle.format.proofs.Flags.{flags}
use Rattle.entries.proofs.closes_plane.Goals as goal

pub returns-then-has_letter : goal.returns-then-has_letter
unfolding closes_plane
returns-then-has_letter c = search flags depth 8

pub returns : goal.returns
unfolding closes_plane
returns c = search flags depth 8
