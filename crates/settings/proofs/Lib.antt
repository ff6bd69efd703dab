-- Laws of settings and of reading them.
pub mod Numbers
pub mod Finding
pub mod FoundLines
pub mod Answering
pub mod Spelling
pub mod Lines
pub mod Commas
pub mod Reading
pub mod Spellable
pub mod Meaning
