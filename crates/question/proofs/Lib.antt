-- Demand 3 about whole calls, what the release is to them, and the laws that these rest on.
pub mod Ranks
pub mod Shifts
pub mod Asking
pub mod Agreeing
pub mod Accepts
pub mod Calls
pub mod Lending
pub mod Halves
pub mod Demand3
pub mod Releases
