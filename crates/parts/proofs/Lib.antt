-- Laws of questions by number and of the stretches that are handed out.
pub mod Numbered
pub mod Parts
pub mod Within
