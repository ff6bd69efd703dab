-- Which entries a question selects, and the layer of each.
pub mod Select
pub mod Layer
pub mod Table
