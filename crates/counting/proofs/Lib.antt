-- Laws of marking and counting the tiles that a question selects, and the claims that a count of covered pixels rests on.
pub mod Marking
pub mod Answering
pub mod Marks
pub mod Sharing
pub mod Uses
pub mod Boxes
pub mod Adding
