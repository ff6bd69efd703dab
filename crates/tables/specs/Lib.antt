-- Records as numbers, and all of a file's in lent arrays.
pub mod Numbers
pub mod Zeros
pub mod Rows
pub mod Tables
pub mod Steps
