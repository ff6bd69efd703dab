-- Laws of what bytes begin with.
pub mod Beginning
pub mod Comparing
pub mod Splitting
pub mod Naming
pub mod Quoting
pub mod Tags
pub mod Marking
pub mod Opening
pub mod Sections
pub mod Walking
