-- Lines of plain text.
pub mod Text
pub mod Fields
