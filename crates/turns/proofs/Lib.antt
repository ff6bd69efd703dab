-- Laws of a tile's turn.
pub mod Parts
pub mod Stretches
pub mod Turns
pub mod Tile
pub mod TileRows
