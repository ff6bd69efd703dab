-- The rows of what the file segment names, in the order of judging it, and what is known once the file segment is judged: the rooms of those segments lie
-- in the file.
use Rattle.std.specs.Prelude.{◌≡◌, List, ◌++◌, ℕ}
use Rattle.format.specs.Scan.{Scan}
use Rattle.format.specs.Checks.{Check}
use Rattle.format.specs.Segments.{RoomIn}
use Rattle.format.specs.Directory.{directory_rows}
use Rattle.format.specs.Attachments.{metadata_rows, attachments_rows}
use Rattle.format.specs.File.{directory_position, metadata_position, attachment_directory_position}

-- the metadata segment and the attachment directory
abbrev pub annex_rows : List ℕ → List Check
annex_rows bs = metadata_rows bs ++ attachments_rows bs

-- the directory, and those two
abbrev pub named_rows : Scan → List Check
named_rows sc = directory_rows sc ++ annex_rows sc.file

pub record Located (bs : List ℕ) : Type 0 where
  pub directory : RoomIn bs (directory_position bs)
  pub metadata : (metadata_position bs ≡ 0 → ⊥) → RoomIn bs (metadata_position bs)
  pub attachments : (attachment_directory_position bs ≡ 0 → ⊥) → RoomIn bs (attachment_directory_position bs)
