-- Laws of segments that are written, and of bytes put into a lent buffer.
pub mod Sizes
pub mod Numbers
pub mod Joined
pub mod Packed
pub mod Places
pub mod Tiling
pub mod Puts
pub mod Pieces
