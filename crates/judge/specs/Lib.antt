-- What is known of a file whose segments were walked.
pub mod Located
