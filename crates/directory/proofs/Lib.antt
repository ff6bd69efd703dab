-- Laws of judging one thing after another.
pub mod Marking
pub mod Stages
