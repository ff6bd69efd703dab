-- Laws of the loops that select, and of the table that they leave.
pub mod Starts
pub mod Selecting
pub mod Chosen
