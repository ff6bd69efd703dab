-- `tiles::rank_of` meets its contract.
use borrow.Author.Rules.{rules}
use native.Mathlib.Omega.{arith}
use Rattle.format.proofs.Flags.{is_true, is_false}
use Rattle.entries.proofs.EntryLaws.{letter-placed}
use Rattle.tiles.specs.FileTile.{rank_of}
use Rattle.tiles.proofs.rank_of.Goals as goal

pub biased_start-requires : goal.biased_start-requires
biased_start-requires c =
    let p = letter-placed _ _ 77 (is_true _ _ c.holds_letter.ensures c.if-holds_letter.true) in
    omega (arith, c.requires.0.entry, p.within, c.letter_place-m.ensures)

pub returns-then-holds_letter : goal.returns-then-holds_letter
unfolding rank_of
returns-then-holds_letter c = (
  rw (is_true _ _ c.holds_letter.ensures c.if-holds_letter.true, ← c.letter_place-m.ensures, ← c.biased_start.ensures.0),
  omega (arith, c.biased_start.ensures.1, c.requires.1),
)

pub returns-else-holds_letter : goal.returns-else-holds_letter
unfolding rank_of
returns-else-holds_letter c = (rw (is_false _ _ c.holds_letter.ensures c.if-holds_letter.false), search rules)
