-- Laws that the proofs of a repack's functions cite.
pub mod Bounds
pub mod Sums
pub mod Segments
pub mod NewPlaces
pub mod Contents
pub mod Written
pub mod Blocks
pub mod PackedPuts
pub mod TileLoops
pub mod AnnexContents
pub mod Annexes
pub mod AnnexLoops
pub mod WholeFile
pub mod Answering
