-- What the two releases have in common and where they differ (paper 02, Req 05), as claims about any bytes; `proofs/Releases` proves them.
use Rattle.std.specs.Prelude.{ℕ, ◌≡◌, List, [], ◌∷◌, ◌++◌, cond, ◌||◌, eqb, None}
use Rattle.format.specs.Checks.{Check, Verdict, Accepted, number, first, number_of}
use Rattle.format.specs.Scan.{scan_of}
use Rattle.format.specs.Rules.{checks, verdict, tile_verdict, attachment_verdict}
use Rattle.format.specs.Records.{tile_record, dimension_verdict, dimension_record, attachment_record, tile_pixels, tile_metadata, tile_attachment}
use Rattle.format.specs.Records.{attachment_data, common_xml, common_attachment}
use Rattle.format.specs.declared.Release.{Release}
use Rattle.format.specs.declared.Release.TheVariants.{R102, R12}
use Rattle.format.specs.declared.Tile.{Tile}

-- a verdict is neither refusal 17 nor 18, at any place
pub record NoChunkRefused (v : Verdict) : Type 0 where
  pub not_17 : number_of v ≡ 17 → ⊥
  pub not_18 : number_of v ≡ 18 → ⊥

-- a tile record with no mask
abbrev pub without_mask : Tile → Tile
without_mask t =
    record {
      entry = t.entry;
      place = t.place;
      pixel_type = t.pixel_type;
      position = t.position;
      pyramid = t.pyramid;
      dimensions = t.dimensions;
      x = t.x;
      y = t.y;
      m = t.m;
      layers = t.layers;
      metadata = t.metadata;
      pixels = t.pixels;
      attachment = t.attachment;
      mask = None;
    }

-- rows but for those of 17 and 18, in their order
unfoldable pub without_chunks : List Check → List Check
without_chunks [] = []
without_chunks (c ∷ cs) = cond (eqb (number c.fault) 17 || eqb (number c.fault) 18) (without_chunks cs) (c ∷ without_chunks cs)

-- ---- both judge any bytes alike, number and place too, unless 1.2 gives 17 or 18: here release r against 1.2

pub record Judging (bs : List ℕ) (r : Release) : Type 0 where
  pub alike : NoChunkRefused (verdict (scan_of bs R12)) → verdict (scan_of bs r) ≡ verdict (scan_of bs R12)
  -- so is the verdict of a question whose further rows, behind the file's own, are the same under both
  pub further : NoChunkRefused (verdict (scan_of bs R12)) → (rows : List Check) → first (checks (scan_of bs r) ++ rows) ≡ first (checks (scan_of bs R12) ++ rows)
  -- it accepts whatever 1.2 accepts
  pub accepts : verdict (scan_of bs R12) ≡ Accepted → verdict (scan_of bs r) ≡ Accepted
  -- what 1.02 asks of the bytes is what 1.2 asks, in the same order, but for 17 and 18: so it goes on where 1.2 stops at one of them
  pub rows : checks (scan_of bs R102) ≡ without_chunks (checks (scan_of bs R12))

-- under 1.02 neither is given: not of a file, nor to a question whose own rows give neither, as those of every question do
pub record NeverChunkRefused (bs : List ℕ) : Type 0 where
  pub file : NoChunkRefused (verdict (scan_of bs R102))
  pub further : (rows : List Check) → NoChunkRefused (first rows) → NoChunkRefused (first (checks (scan_of bs R102) ++ rows))
  pub tile : (n : ℕ) → NoChunkRefused (tile_verdict (scan_of bs R102) n)
  pub dimension : (n k : ℕ) → NoChunkRefused (dimension_verdict (scan_of bs R102) n k)
  pub attachment : (n : ℕ) → NoChunkRefused (attachment_verdict (scan_of bs R102) n)

-- ---- what is handed out

-- the records, of any number, as values: under 1.02 no tile has a mask, and nothing else differs
pub record SameRecords (bs : List ℕ) (r : Release) : Type 0 where
  pub tile : (n : ℕ) → tile_record (scan_of bs R102) n ≡ without_mask (tile_record (scan_of bs R12) n)
  pub dimension : (n k : ℕ) → dimension_record (scan_of bs r) n k ≡ dimension_record (scan_of bs R12) n k
  pub attachment : (n : ℕ) → attachment_record (scan_of bs r) n ≡ attachment_record (scan_of bs R12) n

-- the verdicts of the questions for them, and the views, where 1.2 gives neither 17 nor 18
pub record SameViews (bs : List ℕ) (r : Release) : Type 0 where
  pub tile-verdict : (n : ℕ) → tile_verdict (scan_of bs r) n ≡ tile_verdict (scan_of bs R12) n
  pub dimension-verdict : (n k : ℕ) → dimension_verdict (scan_of bs r) n k ≡ dimension_verdict (scan_of bs R12) n k
  pub attachment-verdict : (n : ℕ) → attachment_verdict (scan_of bs r) n ≡ attachment_verdict (scan_of bs R12) n
  pub pixels : (n : ℕ) → tile_pixels (scan_of bs r) n ≡ tile_pixels (scan_of bs R12) n
  pub metadata : (n : ℕ) → tile_metadata (scan_of bs r) n ≡ tile_metadata (scan_of bs R12) n
  pub tile_attachment : (n : ℕ) → tile_attachment (scan_of bs r) n ≡ tile_attachment (scan_of bs R12) n
  pub attachment_data : (n : ℕ) → attachment_data (scan_of bs r) n ≡ attachment_data (scan_of bs R12) n
  pub xml : common_xml (scan_of bs r) ≡ common_xml (scan_of bs R12)
  pub xml_attachment : common_attachment (scan_of bs r) ≡ common_attachment (scan_of bs R12)

-- ---- all of it, once, over the release; of a composer's calls question/specs/Releases

pub record Releases (bs : List ℕ) (r : Release) : Type 0 where
  pub judging : Judging bs r
  pub never : NeverChunkRefused bs
  pub records : SameRecords bs r
  pub views : NoChunkRefused (verdict (scan_of bs R12)) → SameViews bs r

abbrev pub AllReleases : Type 0
AllReleases = (bs : List ℕ) (r : Release) → Releases bs r
