-- What the steps of composing promise each other.
pub mod Steps
