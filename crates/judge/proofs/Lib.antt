-- Laws of a file whose file segment is accepted, of an accepted file, and of a loop over its entries.
pub mod LocatedLaws
pub mod AcceptedFile
pub mod EntryLoop
