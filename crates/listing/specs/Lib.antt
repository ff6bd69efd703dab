-- The figures of a file, its summary and its listing.
pub mod Summary
pub mod Listing
pub mod Figures
