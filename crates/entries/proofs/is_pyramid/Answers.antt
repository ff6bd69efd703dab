-- `entries::is_pyramid` meets its contract.
use mathlib.Core.Path.{◌≡◌}
use native.Mathlib.Omega.{arith}
use borrow.Author.Rules.{rules}
use Rattle.format.specs.Entry.{is_pyramid}
use Rattle.format.proofs.Flags.{flags}
use Rattle.entries.proofs.EntryLaws.{size-other, size_same, x-in, y-in}
use Rattle.entries.proofs.is_pyramid.Goals as goal

pub letter_place-x-requires : goal.letter_place-x-requires
unfolding is_pyramid
letter_place-x-requires c = search rules

pub stored_at-requires : goal.stored_at-requires
unfolding is_pyramid
stored_at-requires c = search x-in

pub size_at-requires : goal.size_at-requires
unfolding is_pyramid
size_at-requires c = search x-in

pub returns-then-stored_at-size_at : goal.returns-then-stored_at-size_at
unfolding is_pyramid
returns-then-stored_at-size_at c =
    let h : (c.stored_at.result ≡ c.size_at.result) → ⊥ = λ e. omega arith in
    search (flags, size-other, size_same) depth 8

pub letter_place-y-requires : goal.letter_place-y-requires
unfolding is_pyramid
letter_place-y-requires c = search rules

pub stored_at-requires-2 : goal.stored_at-requires-2
unfolding is_pyramid
stored_at-requires-2 c = search y-in

pub size_at-requires-2 : goal.size_at-requires-2
unfolding is_pyramid
size_at-requires-2 c = search y-in

pub returns-then-stored_at-size_at-2 : goal.returns-then-stored_at-size_at-2
unfolding is_pyramid
returns-then-stored_at-size_at-2 c =
    let h : (c.stored_at-2.result ≡ c.size_at-2.result) → ⊥ = λ e. omega arith in
    search (flags, size-other, size_same) depth 8

pub returns : goal.returns
unfolding is_pyramid
returns c = search (flags, size_same) depth 8
