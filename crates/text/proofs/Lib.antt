-- Laws of text in decimal digits and of its lines.
pub mod Texts
pub mod Digits
