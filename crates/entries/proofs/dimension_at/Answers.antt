-- `entries::dimension_at` meets its contract.
use borrow.Author.Rules.{rules}
use Rattle.format.specs.Records.{dimension_at}
use Rattle.entries.proofs.ReadBack.{read_back}
use Rattle.entries.proofs.dimension_at.Goals as goal

pub letter_at-letter-requires : goal.letter_at-letter-requires
unfolding dimension_at
letter_at-letter-requires c = search rules

pub start_at-requires : goal.start_at-requires
unfolding dimension_at
start_at-requires c = search rules

pub signed_of-start-requires : goal.signed_of-start-requires
unfolding dimension_at
signed_of-start-requires c = search rules

pub size_at-size-requires : goal.size_at-size-requires
unfolding dimension_at
size_at-size-requires c = search rules

pub coordinate_bits-coordinate_bits-requires : goal.coordinate_bits-coordinate_bits-requires
unfolding dimension_at
coordinate_bits-coordinate_bits-requires c = search rules

pub overflow_cast-coordinate_bits : goal.overflow_cast-coordinate_bits
unfolding dimension_at
overflow_cast-coordinate_bits c = search rules

pub float_of-coordinate-requires : goal.float_of-coordinate-requires
unfolding dimension_at
float_of-coordinate-requires c = search rules

pub stored_at-stored-requires : goal.stored_at-stored-requires
unfolding dimension_at
stored_at-stored-requires c = search rules

pub returns : goal.returns
unfolding dimension_at
returns c = cc (read_back _ c.signed_of-start.type_inv)
