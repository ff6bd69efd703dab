-- Stretches that lie in a file.
pub mod Within
