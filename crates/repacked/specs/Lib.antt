-- The new file that a repack makes of an accepted one: its bytes, the refusals, and what is claimed of it.
pub mod Contents
pub mod NewFile
pub mod Refusals
pub mod Claims
