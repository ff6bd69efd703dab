-- Laws of copied and equal bytes, words, products and signed numbers.
pub mod Equal
pub mod Products
pub mod Signed
pub mod Words
