-- Which tiles a question selects and which of them share a pixel with its window; what a count of covered pixels rests on.
pub mod Chosen
pub mod Claims
pub mod Parts
