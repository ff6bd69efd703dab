-- `entries::size_bad` meets its contract.
use Rattle.format.specs.Entry.{size_bad}
use Rattle.format.proofs.Flags.{flags}
use Rattle.entries.proofs.size_bad.Goals as goal

pub returns-then-is_plane : goal.returns-then-is_plane
unfolding size_bad
returns-then-is_plane c = rw (← c.letter_at.ensures.0) (search flags depth 8)

pub returns : goal.returns
unfolding size_bad
returns c = rw (← c.letter_at.ensures.0) (search flags depth 8)
