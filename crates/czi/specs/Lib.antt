-- What the functions for C and Rust answer.
pub mod Lent
pub mod Chosen
pub mod Numbers
pub mod Out
pub mod Plane
pub mod Quote
pub mod Repack
