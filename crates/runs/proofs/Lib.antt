-- Laws of runs, and of runs of bits in bytes.
pub mod Runs
pub mod Bytes
