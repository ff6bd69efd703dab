-- Laws of rows in lent arrays, and of the loops that fill them.
pub mod Zeros
pub mod RowLaws
pub mod Filling
pub mod Answering
