-- Worked cases: paper 01's, those of the tiles that meet a window, and those of a sub-block's metadata.
pub mod Cases
pub mod Counts
pub mod Written
pub mod Right
pub mod Sections
pub mod Quotes
pub mod Repacks
pub mod Layers
