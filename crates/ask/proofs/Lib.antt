-- Laws of an accepted window.
pub mod AskLaws
