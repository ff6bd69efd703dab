-- What a run is.
pub mod Run
