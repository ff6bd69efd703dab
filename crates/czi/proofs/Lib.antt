-- Laws of the answers to C.
pub mod Low
pub mod Marks
pub mod Out
