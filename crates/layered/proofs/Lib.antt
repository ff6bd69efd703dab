-- What is claimed of layers, proved.
pub mod Sizes
pub mod Dimensions
pub mod Places
pub mod Selection
pub mod Views
pub mod Layers
