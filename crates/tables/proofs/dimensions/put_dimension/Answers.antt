-- `tables::dimensions::put_dimension` meets its contract.
use Rattle.tables.proofs.Filling.{dimension-small, dimension-in, dimension-put}
use Rattle.tables.proofs.dimensions.put_dimension.Goals as goal

pub dimension_place-requires : goal.dimension_place-requires
dimension_place-requires c = search dimension-small

pub dimension_at-d-requires : goal.dimension_at-d-requires
dimension_at-d-requires c = search dimension-in

pub returns : goal.returns
returns c = search dimension-put
