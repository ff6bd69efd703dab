-- An entry's tile as a composer sees it, and its turn.
pub mod FileTile
pub mod Painted
