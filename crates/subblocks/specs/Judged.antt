-- What is known of an entry and its sub-block at each step of judging it: what the next step may read.
-- The entry stands at e of the file ds, the sub-block at q of the file bs.
use Rattle.std.specs.Prelude.{ℕ, ◌+◌, ◌≤◌, ◌≡◌, List, false, length}
use Rattle.format.specs.Checks.{first}
use Rattle.format.specs.Segments.{room}
use Rattle.format.specs.Entry.{pixel_type, pixel_bytes, dimension_count, next_entry, dimensions_bad}
use Rattle.format.specs.SubBlock.{sub_block_bad, contents_bad}
use Rattle.format.specs.Directory.{attachment_rows}
use Rattle.format.specs.declared.Release.{Release}
use Rattle.format.specs.Checks.{Accepted}

-- the entry lies in its file, is well formed and of a listed pixel type
pub record Listed (ds : List ℕ) (e : ℕ) : Type 0 where
  pub few : dimension_count ds e ≤ 16
  pub entry : next_entry ds e ≤ length ds
  pub dimensions : dimensions_bad ds e ≡ false
  pub pixel : pixel_bytes (pixel_type ds e) ≡ 0 → ⊥

-- besides, the room of the sub-block lies in its file
pub record Placed (ds : List ℕ) (e : ℕ) (bs : List ℕ) (q : ℕ) : Type 0 where
  pub listed : Listed ds e
  pub within : q + 32 + room bs q ≤ length bs

-- besides, the fixed part fits and the copy agrees
pub record CopyAgrees (ds : List ℕ) (e : ℕ) (bs : List ℕ) (q : ℕ) : Type 0 where
  pub placed : Placed ds e bs q
  pub block : sub_block_bad ds e bs q ≡ false

-- besides, metadata, pixels and attachment fit
pub record Filled (ds : List ℕ) (e : ℕ) (bs : List ℕ) (q : ℕ) : Type 0 where
  pub agreed : CopyAgrees ds e bs q
  pub contents : contents_bad ds e bs q ≡ false

-- besides, the attachment's chunks are as the release r wants them
pub record Judged (ds : List ℕ) (e : ℕ) (bs : List ℕ) (q : ℕ) (r : Release) : Type 0 where
  pub filled : Filled ds e bs q
  pub attachment : first (attachment_rows ds e bs q r) ≡ Accepted
