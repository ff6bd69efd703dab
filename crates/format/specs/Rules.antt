-- The verdict: the first refusal that is given, of all the rows in the paper's order.
use Rattle.std.specs.Prelude.{ℕ, ◌≡◌, List, [], ◌∷◌, ◌++◌, leb}
use Rattle.format.specs.Checks.{Verdict, Accepted, Check, row, first}
use Rattle.format.specs.Scan.{Scan, scan_of}
use Rattle.format.specs.Segments.{segments_rows}
use Rattle.format.specs.File.{file_rows}
use Rattle.format.specs.Directory.{directory_rows, tile_count}
use Rattle.format.specs.Attachments.{metadata_rows, attachments_rows, attachment_count}
use Rattle.format.specs.declared.Release.{Release}
use Rattle.format.specs.declared.Fault.TheVariants as Fault

-- 1; for each segment 4, 2, 3, 5; then 6, 7, 8; 9 in field order; the directory; the metadata segment; the attachment directory
unfoldable pub checks : Scan → List Check
checks sc = segments_rows sc.file ++ (file_rows sc.file ++ (directory_rows sc ++ (metadata_rows sc.file ++ attachments_rows sc.file)))

unfoldable pub verdict : Scan → Verdict
verdict sc = first (checks sc)

-- the file bs is accepted under some release, and so under 1.02 (`accepted-older`): what reads no chunk need not know which
pub record AcceptedFile (bs : List ℕ) : Type 0 where
  pub release : Release
  pub accepted : verdict (scan_of bs release) ≡ Accepted

-- ---- a question about the entry of a number, counted from 0: 24 where there is none

unfoldable pub tile_verdict : Scan → ℕ → Verdict
tile_verdict sc n = first (checks sc ++ (row Fault.NoSuchNumber 0 (leb (tile_count sc.file) n) ∷ []))

unfoldable pub attachment_verdict : Scan → ℕ → Verdict
attachment_verdict sc n = first (checks sc ++ (row Fault.NoSuchNumber 0 (leb (attachment_count sc.file) n) ∷ []))
