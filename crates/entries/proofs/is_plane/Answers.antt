-- `entries::is_plane` meets its contract.
use mathlib.Core.Path.{◌≡◌}
use native.Mathlib.Omega.{arith}
use Rattle.format.specs.Entry.{is_plane}
use Rattle.format.proofs.Flags.{flags}
use Rattle.entries.proofs.is_plane.Goals as goal

pub returns-then-letter-eq88 : goal.returns-then-letter-eq88
unfolding is_plane
returns-then-letter-eq88 c = search flags depth 8

pub returns-then-letter-eq89 : goal.returns-then-letter-eq89
unfolding is_plane
returns-then-letter-eq89 c = let h : c.args.letter ≡ 89 = omega arith in search flags depth 8

pub returns : goal.returns
unfolding is_plane
returns c = search flags depth 8
