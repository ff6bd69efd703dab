-- How segments are written.
pub mod Pack
pub mod Put
pub mod Claims
