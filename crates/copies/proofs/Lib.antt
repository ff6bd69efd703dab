-- Laws of copies and of moves.
pub mod Copies
pub mod Moves
