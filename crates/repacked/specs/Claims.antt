-- What is claimed of a repack: its refusals by numbers (`proofs/Refused` proves it), the new file of a scan that is not refused (`proofs/Repacks`), and what
-- a new file depends on (`proofs/Again`).
use Rattle.std.specs.Prelude.{ℕ, ◌+◌, ◌^◌, ◌≤◌, ◌<◌, ◌≡◌, ◌⊎◌, List, [], ◌∷◌, ◌++◌, length, get_or}
use Rattle.format.specs.Bytes.{part_of}
use Rattle.format.specs.Scan.{Scan}
use Rattle.format.specs.Segments.{allocated_size, used_size, walked}
use Rattle.format.specs.File.{directory_position, metadata_position, attachment_directory_position}
use Rattle.format.specs.Directory.{tile_count}
use Rattle.format.specs.Attachments.{attachment_count}
use Rattle.format.specs.Rules.{verdict}
use Rattle.format.specs.declared.Release.{Release}
use Rattle.format.specs.Checks.{Accepted, Refused}
use Rattle.equivalent.specs.Same.{SameScans}
use Rattle.equivalent.specs.Claims.{Equivalent, SameUnder}
use Rattle.pack.specs.Pack.{Segment, allocated, segment_size, segment_bytes, each, places_from}
use Rattle.repacked.specs.NewFile.{if_named, entry_block, entry_attachment, new_directory, new_block, new_metadata, new_attachment_directory, new_attachment, new_end}
use Rattle.repacked.specs.NewFile.{new_segments, repacked, repacked_scan}
use Rattle.repacked.specs.Refusals.{size_verdict, repack_verdict}
use Rattle.format.specs.declared.Fault.{Fault}

-- ---- the refusals, of a scan and a lent buffer of a length

-- how many segments the new file of bs has: those of file and directory, of the tiles, of the metadata, of the attachment directory and the attachments
abbrev pub new_count : List ℕ → ℕ
new_count bs = 2 + tile_count bs + if_named (metadata_position bs) 1 0 + if_named (attachment_directory_position bs) (1 + attachment_count bs) 0

-- the new file is not too large
pub record Small (bs : List ℕ) : Type 0 where
  pub count : new_count bs ≤ 8192
  pub size : new_end bs ≤ 2 ^ 40

pub record RefusalClaims (sc : Scan) (out : ℕ) : Type 0 where
  -- the file's own refusal goes first
  pub own : (f : Fault) (p : ℕ) → verdict sc ≡ Refused f p → (size_verdict sc ≡ Refused f p) × (repack_verdict sc out ≡ Refused f p)
  -- of an accepted file: 36 where the new one would have over 8,192 segments or 2^40 bytes; else 25 where the buffer is shorter; else none
  pub large : verdict sc ≡ Accepted → (8192 < new_count sc.file) ⊎ (2 ^ 40 < new_end sc.file)
      → (size_verdict sc ≡ Refused Fault.RepackTooLarge 0) × (repack_verdict sc out ≡ Refused Fault.RepackTooLarge 0)
  pub small : verdict sc ≡ Accepted → Small sc.file → size_verdict sc ≡ Accepted
  pub short : verdict sc ≡ Accepted → Small sc.file → out < new_end sc.file → repack_verdict sc out ≡ Refused Fault.RepackBuffer 0
  pub fits : verdict sc ≡ Accepted → Small sc.file → new_end sc.file ≤ out → repack_verdict sc out ≡ Accepted
  -- these are the new file's numbers
  pub length_is : verdict sc ≡ Accepted → length (repacked sc.file) ≡ new_end sc.file
  pub count-is : length (new_segments sc.file) ≡ new_count sc.file

abbrev pub AllRefusals : Type 0
AllRefusals = (sc : Scan) (out : ℕ) → RefusalClaims sc out

-- ---- the segments of the new file

abbrev pub new_places : List ℕ → List ℕ
new_places bs = places_from 0 (new_segments bs)

abbrev pub no_segment : Segment
no_segment = record { name = []; content = [] }

-- segment i of the new file, and where it stands
abbrev pub new_segment : List ℕ → ℕ → Segment
new_segment bs i = get_or (new_segments bs) i no_segment

abbrev pub new_place : List ℕ → ℕ → ℕ
new_place bs i = get_or (new_places bs) i 0

-- it is written there: all its bytes, and so its sizes, UsedSize the content's exact length and AllocatedSize the smallest that holds it
pub record Written (bs : List ℕ) (i : ℕ) : Type 0 where
  pub bytes : part_of (repacked bs) (new_place bs i) (segment_size (length (new_segment bs i).content)) ≡ segment_bytes (new_segment bs i)
  pub used : used_size (repacked bs) (new_place bs i) ≡ length (new_segment bs i).content
  pub allocated-is : allocated_size (repacked bs) (new_place bs i) ≡ allocated (length (new_segment bs i).content)

-- the segments that a file bs has and names: its file segment, its directory, each entry's sub-block, the metadata segment, the attachment directory, each
-- entry's attachment
unfoldable pub named_segments : List ℕ → List ℕ
named_segments bs =
    0 ∷
    directory_position bs ∷
    (each (tile_count bs) (entry_block bs) ++
    (if_named (metadata_position bs) (metadata_position bs ∷ []) [] ++
    (if_named (attachment_directory_position bs) (attachment_directory_position bs ∷ []) [] ++
    each (attachment_count bs) (entry_attachment bs))))

-- the positions in the new file
pub record Positions (bs : List ℕ) : Type 0 where
  pub directory : directory_position (repacked bs) ≡ new_directory
  pub block : (k : ℕ) → k < tile_count bs → entry_block (repacked bs) k ≡ new_block bs k
  pub metadata : metadata_position (repacked bs) ≡ if_named (metadata_position bs) (new_metadata bs) 0
  pub attachment_directory : attachment_directory_position (repacked bs) ≡ if_named (attachment_directory_position bs) (new_attachment_directory bs) 0
  pub attachment : (k : ℕ) → k < attachment_count bs → entry_attachment (repacked bs) k ≡ new_attachment bs k

-- ---- the new file of a scan that is not refused

pub record RepackClaims (sc : Scan) : Type 0 where
  -- it is accepted, under the release that the old one is accepted by
  pub accepted : verdict (repacked_scan sc) ≡ Accepted
  -- it says the same: entries apart from positions and spare bytes, and parts; so records, views and planes are the same, places aside
  pub same : SameScans sc (repacked_scan sc)
  pub equivalent : Equivalent sc (repacked_scan sc)
  -- under the other release too: both are accepted or refused by the same number, and all else is the same, places aside
  pub any-release : (r : Release) → SameUnder sc (repacked_scan sc) r
  -- its segments are those of new_segments, in that order, each written as defined; UsedSize of the file segment is 512
  pub segments : walked (repacked sc.file) ≡ new_places sc.file
  pub written : (i : ℕ) → i < length (new_segments sc.file) → Written sc.file i
  pub file-used : used_size (repacked sc.file) 0 ≡ 512
  pub positions : Positions sc.file
  -- and they are exactly those that it names, in this order: no dead one is left
  pub named : walked (repacked sc.file) ≡ named_segments (repacked sc.file)
  -- repacking it again is refused just where the first was, so not as 36, and gives the same bytes
  pub again_accepted : size_verdict (repacked_scan sc) ≡ Accepted
  pub again_verdict : (out : ℕ) → repack_verdict (repacked_scan sc) out ≡ repack_verdict sc out
  pub again : repacked (repacked sc.file) ≡ repacked sc.file

abbrev pub AllRepacks : Type 0
AllRepacks = (sc : Scan) → size_verdict sc ≡ Accepted → RepackClaims sc

-- the new file depends on nothing that a scan does not say
abbrev pub OnlySaid : Type 0
OnlySaid = (a b : Scan) → SameScans a b → repacked a.file ≡ repacked b.file
