-- What two scans that say the same have in common: as many tiles and attachments, the same records but for places, the same parts byte for byte, and the
-- same planes, counts and refusals, places aside; and so under any release. `proofs/Equivalence` and `proofs/Releases` prove it.
use Rattle.std.specs.Prelude.{ℕ, ◌-◌, ◌<◌, ◌≡◌, List, ◌++◌, Option, Some, None}
use Rattle.format.specs.Scan.{Scan, scan_of}
use Rattle.format.specs.Bytes.{part_of}
use Rattle.format.specs.Checks.{Verdict, Accepted, Refused, Check, first, number_of, verdict_in}
use Rattle.format.specs.Entry.{dimension_count}
use Rattle.format.specs.Directory.{tile_count}
use Rattle.format.specs.Attachments.{attachment_count, attachment_guid, attachment_type, attachment_name}
use Rattle.format.specs.Rules.{checks, verdict, tile_verdict, attachment_verdict}
use Rattle.format.specs.Records.{tile_entry, tile_record, dimension_verdict, dimension_record, attachment_record}
use Rattle.format.specs.Records.{tile_pixels, tile_metadata, tile_attachment, attachment_data, common_xml, common_attachment}
use Rattle.format.specs.declared.Release.{Release}
use Rattle.format.specs.declared.Fault.{Fault}
use Rattle.format.specs.declared.Span.{Span}
use Rattle.format.specs.declared.Tile.{Tile}
use Rattle.format.specs.declared.TileMask.{TileMask}
use Rattle.plane.specs.Turns.{Kind}
use Rattle.question.specs.Call.{Asked, answer, target_after, map_after, covered_in, stored_in}
use Rattle.equivalent.specs.Same.{Same, SameScans, attachment_entry_of}

-- ---- refusals

-- verdicts of the same number, places aside: both accept, or both refuse with it
pub data SameRefusal : Verdict → Verdict → Type 0 where
  accepted : SameRefusal Accepted Accepted
  refused : {f : Fault} {p q : ℕ} → SameRefusal (Refused f p) (Refused f q)

-- ---- records

-- a mask in an attachment that starts at a: its place counted from there. It is found from there on, so its place is not before a
abbrev pub mask_within : ℕ → Option TileMask → Option TileMask
mask_within a None = None
mask_within a (Some m) = Some (record { place = m.place - a; shape = m.shape })

-- two tile records agree in every field that names no place, and their masks stand equally far into the attachments
pub record SameTile (s t : Tile) : Type 0 where
  pub entry : s.entry ≡ t.entry
  pub pixel_type : s.pixel_type ≡ t.pixel_type
  pub pyramid : s.pyramid ≡ t.pyramid
  pub dimensions : s.dimensions ≡ t.dimensions
  pub x : s.x ≡ t.x
  pub y : s.y ≡ t.y
  pub m : s.m ≡ t.m
  pub layers : s.layers ≡ t.layers
  pub metadata : s.metadata.length ≡ t.metadata.length
  pub pixels : s.pixels.length ≡ t.pixels.length
  pub attachment : s.attachment.length ≡ t.attachment.length
  pub mask : mask_within s.attachment.start s.mask ≡ mask_within t.attachment.start t.mask

-- what the entries of attachment n say, and how long its data are
pub record SameListed (a b : Scan) (n : ℕ) : Type 0 where
  pub guid : attachment_guid a.file (attachment_entry_of a.file n) ≡ attachment_guid b.file (attachment_entry_of b.file n)
  pub type : attachment_type a.file (attachment_entry_of a.file n) ≡ attachment_type b.file (attachment_entry_of b.file n)
  pub name : attachment_name a.file (attachment_entry_of a.file n) ≡ attachment_name b.file (attachment_entry_of b.file n)
  pub size : (attachment_record a n).«data».length ≡ (attachment_record b n).«data».length

-- ---- parts

-- the bytes of a stretch of a scan's file
abbrev pub bytes_at : Scan → Span → List ℕ
bytes_at sc s = part_of sc.file s.start s.length

-- ---- calls

-- a question asked of another scan
abbrev pub asked_of : Scan → Asked → Asked
asked_of sc q = record { scan = sc; starts = q.starts; any_scene = q.any_scene; request = q.request; background = q.background }

-- either composer, over any lent bytes, gives the same refusal number, covered count, store count, target and map
pub record SameButPlaces (q r : Asked) : Type 0 where
  pub number : (k : Kind) (t m : List ℕ) → number_of (verdict_in (answer k q t m)) ≡ number_of (verdict_in (answer k r t m))
  pub covered : (k : Kind) (t m : List ℕ) → covered_in (answer k q t m) ≡ covered_in (answer k r t m)
  pub stored : (k : Kind) (t m : List ℕ) → stored_in (answer k q t m) ≡ stored_in (answer k r t m)
  pub target : (k : Kind) (t m : List ℕ) → target_after k q t m ≡ target_after k r t m
  pub map : (k : Kind) (t m : List ℕ) → map_after k q t m ≡ map_after k r t m

-- ---- all of it

pub record Equivalent (a b : Scan) : Type 0 where
  -- as many of each, so the same numbers are refused as 24: both files are accepted, and 24 has the place 0
  pub tiles : tile_count a.file ≡ tile_count b.file
  pub attachments : attachment_count a.file ≡ attachment_count b.file
  pub tile_refusal : (n : ℕ) → tile_verdict a n ≡ tile_verdict b n
  pub dimension_refusal : (n k : ℕ) → dimension_verdict a n k ≡ dimension_verdict b n k
  pub attachment_refusal : (n : ℕ) → attachment_verdict a n ≡ attachment_verdict b n
  -- Major and Minor, and the two GUIDs of the file segment
  pub version : Same 8 a.file 32 b.file 32
  pub guids : Same 32 a.file 48 b.file 48
  -- records
  pub tile : (n : ℕ) → n < tile_count a.file → SameTile (tile_record a n) (tile_record b n)
  pub dimension : (n k : ℕ) → n < tile_count a.file → k < dimension_count a.file (tile_entry a n) → dimension_record a n k ≡ dimension_record b n k
  pub listed : (n : ℕ) → n < attachment_count a.file → SameListed a b n
  -- parts, byte for byte, of every number: those of a number that is refused are empty
  pub pixels : (n : ℕ) → bytes_at a (tile_pixels a n) ≡ bytes_at b (tile_pixels b n)
  pub metadata : (n : ℕ) → bytes_at a (tile_metadata a n) ≡ bytes_at b (tile_metadata b n)
  pub attachment : (n : ℕ) → bytes_at a (tile_attachment a n) ≡ bytes_at b (tile_attachment b n)
  pub attached : (n : ℕ) → bytes_at a (attachment_data a n) ≡ bytes_at b (attachment_data b n)
  pub xml : bytes_at a (common_xml a) ≡ bytes_at b (common_xml b)
  pub xml_attachment : bytes_at a (common_attachment a) ≡ bytes_at b (common_attachment b)
  -- planes
  pub calls : (q : Asked) → SameButPlaces (asked_of a q) (asked_of b q)

abbrev pub AllEquivalent : Type 0
AllEquivalent = (a b : Scan) → SameScans a b → Equivalent a b

-- ---- under any release: the files of two scans that say the same under theirs, judged under r

pub record SameUnder (a b : Scan) (r : Release) : Type 0 where
  pub refusal : SameRefusal (verdict (scan_of a.file r)) (verdict (scan_of b.file r))
  -- so is a question, whose further rows stand behind the file's own, where those are refused alike
  pub further : (rows rows' : List Check) → SameRefusal (first rows) (first rows')
      → SameRefusal (first (checks (scan_of a.file r) ++ rows)) (first (checks (scan_of b.file r) ++ rows'))
  -- where they are accepted, all of the above; where they are refused, calls are, by the same number
  pub equivalent : verdict (scan_of a.file r) ≡ Accepted → Equivalent (scan_of a.file r) (scan_of b.file r)
  pub calls : (q : Asked) → SameButPlaces (asked_of (scan_of a.file r) q) (asked_of (scan_of b.file r) q)

abbrev pub AnyRelease : Type 0
AnyRelease = (a b : Scan) → SameScans a b → (r : Release) → SameUnder a b r
