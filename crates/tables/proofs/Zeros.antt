-- What a tile record lacks is zeros among its numbers, proved.
use Rattle.tables.specs.Numbers.{tile_numbers, tile_starts}
use Rattle.tables.specs.Zeros.{AllZeros}

pub all-zeros : AllZeros
unfolding tile_numbers tile_starts
all-zeros t = record {
  layers = λ e. (rw e, rw e, rw e);
  mask = λ e. (rw e, rw e, rw e, rw e, rw e);
  m = λ e. (rw e, rw e);
}
