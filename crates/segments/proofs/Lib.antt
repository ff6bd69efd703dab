-- Laws of the walk and of the search in its table.
pub mod Leaves
pub mod Names
pub mod Naming
pub mod Search
pub mod Walking
