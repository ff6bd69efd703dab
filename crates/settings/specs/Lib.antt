-- The settings of a quote: their text, how it is read, and what is answered.
pub mod Settings
pub mod Reading
pub mod Answers
pub mod Claims
