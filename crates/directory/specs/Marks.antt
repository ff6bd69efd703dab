-- The rows of an entry behind its head, the flags by which the chunks of a sub-block are judged once, however many entries name it, and what judging
-- an entry answers with them. The flags are those of the file that holds the sub-blocks.
use Rattle.std.specs.Prelude.{ℕ, ◌+◌, ◌<◌, ◌≡◌, List, ◌++◌, length, get_or}
use Rattle.format.specs.Checks.{Verdict, Accepted, Check, first}
use Rattle.format.specs.Segments.{walked}
use Rattle.format.specs.Scan.{Scan, block_file}
use Rattle.format.specs.Entry.{file_position}
use Rattle.format.specs.Directory.{tile_rows, sub_block_rows, attachment_rows}
use Rattle.format.specs.declared.Release.{Release}
use Rattle.subblocks.specs.Judged.{Placed, Filled}

-- the rows of the sub-block at q of the file bs, its entry at e of the file ds, and of its chunks
abbrev pub block_rows : List ℕ → ℕ → List ℕ → ℕ → Release → List Check
block_rows ds e bs q r = sub_block_rows ds e bs q ++ attachment_rows ds e bs q r

-- the rows of an entry behind those of its head
abbrev pub body_rows : Scan → ℕ → List Check
body_rows sc e = tile_rows sc.file e (block_file sc e) ++ block_rows sc.file e (block_file sc e) (file_position sc.file e) sc.release

-- the chunks of the sub-block at q are accepted under the release r, by its own copy of the entry, at q + 48
unfoldable pub ChunksAccepted : List ℕ → ℕ → Release → Type 0
ChunksAccepted bs q r = first (attachment_rows bs (q + 48) bs q r) ≡ Accepted

-- flag k is that of walked segment k: where it is set, the segment's chunks are accepted
pub record Marked (bs flags : List ℕ) (r : Release) : Type 0 where
  pub size : length flags ≡ 8192
  pub right : (k : ℕ) → (get_or flags k 0 ≡ 0 → ⊥) → ChunksAccepted bs (get_or (walked bs) k 0) r

-- q is the position of walked segment k
pub record Stands (bs : List ℕ) (k q : ℕ) : Type 0 where
  pub below : k < 8192
  pub at : get_or (walked bs) k 0 ≡ q

-- what judging the sub-block at q of the file bs, its entry at e of the file ds, may rest on
pub record BlockKnown (ds : List ℕ) (e : ℕ) (bs : List ℕ) (q : ℕ) (flags : List ℕ) (k : ℕ) (r : Release) : Type 0 where
  pub placed : Placed ds e bs q
  pub stands : Stands bs k q
  pub marked : Marked bs flags r

-- the same for its chunks
pub record ChunksKnown (ds : List ℕ) (e : ℕ) (bs : List ℕ) (q : ℕ) (flags : List ℕ) (k : ℕ) (r : Release) : Type 0 where
  pub filled : Filled ds e bs q
  pub stands : Stands bs k q
  pub marked : Marked bs flags r

-- the answer v to the rows cs, and flags after it that are right
pub record AnsweredMarked (bs : List ℕ) (cs : List Check) (flags : List ℕ) (r : Release) (v : Verdict) : Type 0 where
  pub verdict-is : v ≡ first cs
  pub marked : Marked bs flags r

-- the same to the rows of the chunks of walked segment k: where they are accepted, its flag is set, so that they are not judged again
pub record ChunksAnswered (bs : List ℕ) (cs : List Check) (flags : List ℕ) (k : ℕ) (r : Release) (v : Verdict) : Type 0 where
  pub answered : AnsweredMarked bs cs flags r v
  pub flagged : v ≡ Accepted → get_or flags k 0 ≡ 0 → ⊥
