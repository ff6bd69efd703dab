-- `entries::m_index_of` meets its contract.
use mathlib.Core.Path.{sym, ◌∙◌}
use borrow.Author.Rules.{rules}
use Rattle.format.specs.Records.{m_index_of}
use Rattle.entries.proofs.EntryLaws.{letter-in}
use Rattle.entries.proofs.ReadBack.{read_back}
use Rattle.entries.proofs.m_index_of.Goals as goal

pub holds_letter-requires : goal.holds_letter-requires
unfolding m_index_of
holds_letter-requires c = search rules

pub letter_place-d-requires : goal.letter_place-d-requires
unfolding m_index_of
letter_place-d-requires c = search rules

pub start_at-requires : goal.start_at-requires
unfolding m_index_of
start_at-requires c = search letter-in

pub signed_of-requires : goal.signed_of-requires
unfolding m_index_of
signed_of-requires c = search rules

pub returns-then-holds_letter : goal.returns-then-holds_letter
unfolding m_index_of
returns-then-holds_letter c = rw (sym c.holds_letter.ensures ∙ c.if-holds_letter.true) (cc (read_back _ c.signed_of.type_inv))

pub returns : goal.returns
unfolding m_index_of
returns c = rw (sym c.holds_letter.ensures ∙ c.if-holds_letter.false)
