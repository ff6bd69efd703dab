-- What copies do.
pub mod Copied
