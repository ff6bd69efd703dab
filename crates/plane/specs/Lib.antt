-- The theory of a composed plane, over any list of tiles, in the order of paper 01.
pub mod Sums
pub mod Tiles
pub mod Paint
pub mod Turns
pub mod Demand2
pub mod Cuts
pub mod Partition
pub mod Demand3
