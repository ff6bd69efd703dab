-- Laws of an entry's tile and of its turn.
pub mod Rectangles
pub mod EntryTiles
