-- Layers: the rule of an entry's dimensions in plain words, and what is claimed of a tile that has layers and of one that has none.
pub mod Dimensions
pub mod Claims
