-- What a tile's turn is over lent bytes.
pub mod TileOf
pub mod Turned
