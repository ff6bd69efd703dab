-- Scans that say the same, and what follows from it.
pub mod Same
pub mod Claims
