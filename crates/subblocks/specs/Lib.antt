-- What is known of an entry and its sub-block.
pub mod Judged
