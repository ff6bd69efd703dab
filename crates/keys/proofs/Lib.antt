-- Laws of a key that goes in among others.
pub mod KeyLaws
pub mod Inserting
