-- Once the file segment is accepted, the rooms of the segments that it names lie in the file. Assumes nothing.
use Prim.Native.Nat.{ℕ}
use mathlib.Core.Path.{◌≡◌, sym, ◌∙◌}
use mathlib.Core.List.{List}
use mathlib.Core.Bool.{false}
use borrow.Author.Tests.{ne_eqb, not-false}
use Rattle.format.specs.Checks.{first}
use Rattle.format.specs.Names.{name_directory, name_metadata, name_attachment_directory}
use Rattle.format.specs.Segments.{RoomIn}
use Rattle.format.specs.File.{directory_position, metadata_position, attachment_directory_position, names_none, names_none_but0, file_rows}
use Rattle.format.specs.Checks.{Verdict}
use Rattle.format.specs.Checks.{Accepted}
use Rattle.format.proofs.Firsts.{passed}
use Rattle.format.proofs.SegmentLaws.{walked-room}
use Rattle.judge.specs.Located.{Located}

named-room : (bs : List ℕ) (q : ℕ) (name : List ℕ) → names_none bs q name ≡ false → RoomIn bs q
unfolding names_none
named-room bs q name h = walked-room bs q name (not-false _ h)

optional-room : (bs : List ℕ) (q : ℕ) (name : List ℕ) → names_none_but0 bs q name ≡ false → (q ≡ 0 → ⊥) → RoomIn bs q
unfolding names_none_but0
optional-room bs q name h some = named-room bs q name (rw (ne_eqb q 0 some) at h)

pub located : (bs : List ℕ) → first (file_rows bs) ≡ Accepted → Located bs
unfolding file_rows
located bs h = record {
  directory = named-room bs (directory_position bs) name_directory (passed (file_rows bs) h 3);
  metadata = optional-room bs (metadata_position bs) name_metadata (passed (file_rows bs) h 4);
  attachments = optional-room bs (attachment_directory_position bs) name_attachment_directory (passed (file_rows bs) h 5);
}

-- by the answer v
pub located-by : (bs : List ℕ) (v : Verdict) → v ≡ first (file_rows bs) → v ≡ Accepted → Located bs
located-by bs v j a = located bs (sym j ∙ a)
