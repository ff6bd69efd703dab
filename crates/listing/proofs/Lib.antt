-- Laws of the box, of the summary and of the listing.
pub mod Boxes
pub mod Texts
