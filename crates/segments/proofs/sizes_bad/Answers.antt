-- `segments::sizes_bad` meets its contract.
use borrow.Author.Rules.{rules}
use Rattle.format.proofs.Flags.{flags}
use Rattle.format.specs.Segments.{sizes_bad}
use Rattle.segments.proofs.sizes_bad.Goals as goal

pub allocated_bad-requires : goal.allocated_bad-requires
unfolding sizes_bad
allocated_bad-requires c = search rules

pub returns-then-allocated_bad : goal.returns-then-allocated_bad
unfolding sizes_bad
returns-then-allocated_bad c = search flags depth 8

pub used_bad-requires : goal.used_bad-requires
unfolding sizes_bad
used_bad-requires c = search rules

pub returns-then-used_bad : goal.returns-then-used_bad
unfolding sizes_bad
returns-then-used_bad c = search flags depth 8

pub end_bad-requires : goal.end_bad-requires
unfolding sizes_bad
end_bad-requires c = search rules

pub returns : goal.returns
unfolding sizes_bad
returns c = search flags depth 8
