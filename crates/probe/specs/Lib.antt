-- What the functions for measurement answer.
pub mod Equal
