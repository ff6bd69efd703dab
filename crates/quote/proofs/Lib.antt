-- What is claimed of a quote, and the laws that this rests on.
pub mod Sheets
pub mod Verdicts
pub mod Cutting
pub mod Writing
pub mod Quoting
pub mod Quotes
pub mod Decimals
