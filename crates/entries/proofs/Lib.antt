-- Laws of an entry's definitions, of the loops over its dimensions, and of a signed field of a record.
pub mod Passed
pub mod EntryLaws
pub mod LayerLaws
pub mod ReadBack
