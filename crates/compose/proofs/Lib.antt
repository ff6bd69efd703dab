-- Laws of composing.
pub mod KeyTiles
pub mod Along
pub mod Agreeing
pub mod Gathering
pub mod Running
pub mod WholeRun
pub mod Examining
