-- Laws of bits read and set.
pub mod Bitwise
pub mod Ranges
