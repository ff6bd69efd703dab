-- The file segment's fields and the refusals 6, 7, 8, and 9 in field order. The file segment is the one at 0.
use Rattle.std.specs.Prelude.{ℕ, List, [], ◌∷◌, Bool, false, cond, not, eqb}
use Rattle.format.specs.Bytes.{u32_at, u64_at}
use Rattle.format.specs.Names.{name_directory, name_metadata, name_attachment_directory}
use Rattle.format.specs.Checks.{Check, row}
use Rattle.format.specs.Segments.{walked_as}
use Rattle.format.specs.declared.Fault.TheVariants as Fault

-- offsets count from the end of the header: Major Int 0, FilePart Int 48, DirectoryPosition Long 52, MetadataPosition Long 60,
-- UpdatePending Int 68, AttachmentDirectoryPosition Long 72

unfoldable pub major : List ℕ → ℕ
major bs = u32_at bs 32

unfoldable pub file_part : List ℕ → ℕ
file_part bs = u32_at bs 80

unfoldable pub directory_position : List ℕ → ℕ
directory_position bs = u64_at bs 84

unfoldable pub metadata_position : List ℕ → ℕ
metadata_position bs = u64_at bs 92

unfoldable pub update_pending : List ℕ → ℕ
update_pending bs = u32_at bs 100

unfoldable pub attachment_directory_position : List ℕ → ℕ
attachment_directory_position bs = u64_at bs 104

-- refusal 9: a position names no walked segment of its kind
unfoldable pub names_none : List ℕ → ℕ → List ℕ → Bool
names_none bs q name = not (walked_as bs q name)

-- the same where 0 means none (metadata, attachment directory)
unfoldable pub names_none_but0 : List ℕ → ℕ → List ℕ → Bool
names_none_but0 bs q name = cond (eqb q 0) false (names_none bs q name)

unfoldable pub file_rows : List ℕ → List Check
file_rows bs =
    row Fault.Major 0 (not (eqb (major bs) 1)) ∷
    row Fault.FilePart 0 (not (eqb (file_part bs) 0)) ∷
    row Fault.UpdatePending 0 (not (eqb (update_pending bs) 0)) ∷
    row Fault.Positions 84 (names_none bs (directory_position bs) name_directory) ∷
    row Fault.Positions 92 (names_none_but0 bs (metadata_position bs) name_metadata) ∷
    row Fault.Positions 104 (names_none_but0 bs (attachment_directory_position bs) name_attachment_directory) ∷
    []
