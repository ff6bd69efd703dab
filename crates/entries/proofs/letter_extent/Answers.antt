-- `entries::letter_extent` meets its contract.
use Rattle.entries.proofs.letter_extent.Goals as goal

pub returns : goal.returns
returns c = cc
