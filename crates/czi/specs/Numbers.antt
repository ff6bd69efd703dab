-- The corners of a summary's box as numbers, in the order of include/czi.h.
use Rattle.std.specs.Prelude.{pos}
use Rattle.listing.specs.declared.TileBox.{TileBox}

-- where there is no box
abbrev pub no_box : TileBox
no_box = record { left = pos 0; top = pos 0; right = pos 0; bottom = pos 0 }
