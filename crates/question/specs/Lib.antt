-- Questions, calls, and demand 3 about them.
pub mod Question
pub mod Call
pub mod Demand3
pub mod Releases
