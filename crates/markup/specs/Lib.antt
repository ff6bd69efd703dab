-- Classes of bytes, items, and the names of open tags.
pub mod Stretches
pub mod Items
pub mod Open
pub mod Stages
