-- Laws of a row's part of a turn.
pub mod Painting
pub mod Rooms
pub mod Spans
pub mod Steps
pub mod Along
