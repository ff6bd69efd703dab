-- Laws of the start of a composition.
pub mod Front
pub mod Repeats
pub mod Start
