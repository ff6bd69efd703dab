-- What a repack answers, and what its steps know.
pub mod Answers
pub mod Places
