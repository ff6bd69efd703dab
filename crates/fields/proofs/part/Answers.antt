-- `fields::part` meets its contract.
use native.Mathlib.Nat.{add-sub_cancel_left}
use Rattle.format.specs.Bytes.{part_of}
use borrow.Author.Rules.{rules}
use Rattle.fields.proofs.part.Goals as goal

pub returns : goal.returns
unfolding part_of
returns c = record { bytes = rw add-sub_cancel_left; block = search rules; first_byte = search rules }
