-- What follows for two scans that say the same.
pub mod Reading
pub mod Refusals
pub mod Entries
pub mod Blocks
pub mod Chunks
pub mod Annexes
pub mod Records
pub mod Tiles
pub mod Calls
pub mod Equivalence
pub mod Releases
