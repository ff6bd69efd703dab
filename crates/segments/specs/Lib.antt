-- The kinds of segment, and what a walk over a file's segments answers.
pub mod Kinds
pub mod Walk
