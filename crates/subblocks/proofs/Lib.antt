-- Laws of entries and sub-blocks that are judged.
pub mod OwnCopy
pub mod PartLaws
