-- Laws of the new file.
pub mod Lengths
pub mod Written
pub mod Places
pub mod Listed
pub mod Reading
pub mod Sameness
pub mod NewEntries
pub mod NewAnnexes
pub mod WellFormedNew
pub mod Named
pub mod Refused
pub mod Again
pub mod Repacks
