-- `entries::extent_at` meets its contract.
use borrow.Author.Rules.{rules}
use Rattle.format.specs.Records.{extent_at}
use Rattle.entries.proofs.ReadBack.{read_back}
use Rattle.entries.proofs.extent_at.Goals as goal

pub start_at-requires : goal.start_at-requires
unfolding extent_at
start_at-requires c = search rules

pub signed_of-start-requires : goal.signed_of-start-requires
unfolding extent_at
signed_of-start-requires c = search rules

pub size_at-size-requires : goal.size_at-size-requires
unfolding extent_at
size_at-size-requires c = search rules

pub stored_at-stored-requires : goal.stored_at-stored-requires
unfolding extent_at
stored_at-stored-requires c = search rules

pub returns : goal.returns
unfolding extent_at
returns c = cc (read_back _ c.signed_of-start.type_inv)
