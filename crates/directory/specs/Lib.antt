-- What judging an entry answers.
pub mod Marks
