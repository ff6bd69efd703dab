-- One list of rows judged after another, and what an accepted stage tells the next. Assumes nothing.
use Prim.Native.Nat.{ℕ, ◌+◌, ◌≤◌, ◌<◌}
use native.Mathlib.Numerals.{add-one}
use mathlib.Core.Path.{◌≡◌, sym, ◌∙◌}
use mathlib.Core.List.{List, ◌++◌}
use mathlib.Core.Bool.{Bool, false}
use native.Mathlib.Omega.{arith}
use lib.ListN.{length}
use lib.Dec.{ltb}
use borrow.Author.Tests.{ltb-false, eqb-false, not-false}
use Rattle.format.specs.Scan.{Scan, block_file}
use Rattle.std.specs.Prelude.{Some, Ok, Err}
use Rattle.format.specs.Checks.{Verdict, Accepted, Check, first, rows_below}
use Rattle.format.specs.File.{directory_position}
use Rattle.format.specs.Segments.{room, RoomIn, walked_as}
use Rattle.format.specs.Names.{name_sub_block}
use Rattle.format.specs.Entry.{dimension_count, next_entry, file_position}
use Rattle.format.specs.SubBlock.{sub_block_bad}
use Rattle.format.specs.Directory.{room_end, directory_bad, entry_place, head_rows, tile_rows, sub_block_rows, entry_rows}
use Rattle.format.specs.declared.Release.{Release}
use Rattle.format.specs.declared.Refusal.{Refusal}
use Rattle.format.proofs.Firsts.{first-pass, first-stop, first-both, passed, rows-zero, rows_more, rows-stop}
use Rattle.format.proofs.Below.{none}
use Rattle.format.proofs.SegmentLaws.{walked-room, walked-few}
use Rattle.entries.proofs.EntryLaws.{head_ok}
use Rattle.segments.specs.Walk.{index_as}
use Rattle.segments.proofs.Naming.{named}
use Rattle.subblocks.specs.Judged.{Placed, CopyAgrees, Filled}
use Rattle.directory.specs.Marks.{Marked, BlockKnown, ChunksKnown, AnsweredMarked}

-- ---- the answer v of the first rows decides, or the answer w of the rows behind them

pub then-stop : (v : Verdict) (a b : List Check) (r : Refusal) → v ≡ first a → v ≡ Err r → Err r ≡ first (a ++ b)
then-stop v a b r e h = sym (first-stop a b r (sym e ∙ h))

pub then_next : (v w : Verdict) (a b : List Check) → v ≡ first a → v ≡ Accepted → w ≡ first b → w ≡ first (a ++ b)
then_next v w a b e h k = k ∙ sym (first-pass a b (sym e ∙ h))

-- ---- an entry whose head is accepted

pub record Headed (bs : List ℕ) (d e : ℕ) : Type 0 where
  pub few : dimension_count bs e ≤ 16
  pub next : next_entry bs e ≤ room_end bs d
  pub entry : next_entry bs e ≤ length bs

room-end-in : (bs : List ℕ) (d : ℕ) → RoomIn bs d → room_end bs d ≤ length bs
unfolding room_end
room-end-in bs d h = h

pub headed : (bs : List ℕ) (d e : ℕ) → RoomIn bs d → first (head_rows bs d e) ≡ Accepted → Headed bs d e
unfolding head_rows
headed bs d e r h =
    let next = ltb-false (room_end bs d) (next_entry bs e) (passed (head_rows bs d e) h 2) in
    record { few = (head_ok bs e (passed (head_rows bs d e) h 1)).few; next = next; entry = omega (arith, room-end-in bs d r) }

-- by the answer v
module _ (bs : List ℕ) (d e : ℕ) (v : Verdict) (r : RoomIn bs d) (j : v ≡ first (head_rows bs d e)) (a : v ≡ Accepted) where
  pub head_few : dimension_count bs e ≤ 16
  head_few = (headed bs d e r (sym j ∙ a)).few

  pub head-entry : next_entry bs e ≤ length bs
  head-entry = (headed bs d e r (sym j ∙ a)).entry

-- the fixed part of an entry lies in the file where all of it does
pub fixed_in : (bs : List ℕ) (e : ℕ) → next_entry bs e ≤ length bs → e + 32 ≤ length bs
unfolding next_entry
fixed_in bs e h = omega arith

-- ---- an entry that is accepted itself, and its sub-block in the file that it names

pub placed : (sc : Scan) (e : ℕ) → dimension_count sc.file e ≤ 16 → next_entry sc.file e ≤ length sc.file
    → first (tile_rows sc.file e (block_file sc e)) ≡ Accepted → Placed sc.file e (block_file sc e) (file_position sc.file e)
unfolding tile_rows
placed sc e few entry h =
    let g = passed (tile_rows sc.file e (block_file sc e)) h in
    record {
      listed = record { few = few; entry = entry; dimensions = g 0; pixel = eqb-false _ _ (g 1) };
      within = walked-room (block_file sc e) (file_position sc.file e) name_sub_block (not-false _ (g 4));
    }

-- of a scan: what judging the sub-block rests on
module _ (sc : Scan) (e k q : ℕ) (f : q ≡ file_position sc.file e) (n : Some k ≡ index_as (block_file sc e) q name_sub_block) where
  pub block-known : (flags : List ℕ) (v : Verdict) → Marked (block_file sc e) flags sc.release
      → dimension_count sc.file e ≤ 16 → next_entry sc.file e ≤ length sc.file
      → v ≡ first (tile_rows sc.file e (block_file sc e)) → v ≡ Accepted → BlockKnown sc.file e (block_file sc e) q flags k sc.release
  unfolding tile_rows
  block-known flags v m few entry j a =
      let h : first (tile_rows sc.file e (block_file sc e)) ≡ Accepted = sym j ∙ a in
      let s = named (block_file sc e) q name_sub_block k n in
      record {
        placed = rw f (placed sc e few entry h);
        stands = record { below = omega (arith, s.below, walked-few (block_file sc e)); at = s.stands };
        marked = m;
      }

-- ---- a sub-block that is accepted

module _ (ds : List ℕ) (e : ℕ) (bs : List ℕ) (q : ℕ) where
  pub filled : Placed ds e bs q → first (sub_block_rows ds e bs q) ≡ Accepted → Filled ds e bs q
  unfolding sub_block_rows
  filled p h = record {
    agreed = record { placed = p; block = passed (sub_block_rows ds e bs q) h 0 };
    contents = passed (sub_block_rows ds e bs q) h 1;
  }

  -- by the answer v: refusal 15 is not given
  pub copy-agrees : (r : Bool) → Placed ds e bs q → r ≡ sub_block_bad ds e bs q → r ≡ false → CopyAgrees ds e bs q
  copy-agrees r p j a = record { placed = p; block = sym j ∙ a }

  pub chunks-known : (flags : List ℕ) (k : ℕ) (r : Release) (v : Verdict) → BlockKnown ds e bs q flags k r → v ≡ first (sub_block_rows ds e bs q) → v ≡ Accepted
      → ChunksKnown ds e bs q flags k r
  chunks-known flags k r v b j a = record { filled = filled b.placed (sym j ∙ a); stands = b.stands; marked = b.marked }

-- ---- the loop over the entries: those below k are accepted, the next is at e, and the flags are right

pub record Entries (sc : Scan) (flags : List ℕ) (d n e k : ℕ) : Type 0 where
  pub count : k ≤ n
  pub place : e ≡ entry_place sc.file k
  pub within : e ≤ room_end sc.file d
  pub accepted : first (rows_below k (λ i. entry_rows sc d (entry_place sc.file i))) ≡ Accepted
  pub marked : Marked sc.file flags sc.release

pub entries-start : (sc : Scan) (flags : List ℕ) (d n e : ℕ) → e ≡ entry_place sc.file 0 → entry_place sc.file 0 ≤ room_end sc.file d
    → Marked sc.file flags sc.release → Entries sc flags d n e 0
entries-start sc flags d n e p h m = record { count = omega arith; place = p; within = omega arith; accepted = rows-zero _; marked = m }

-- an accepted entry: it lies in the file, and the next one in the directory too
module _ (sc : Scan) (d e : ℕ) (r : RoomIn sc.file d) (flags : List ℕ) (v : Verdict)
    (j : AnsweredMarked sc.file (entry_rows sc d e) flags sc.release v) (a : v ≡ Accepted) where
  next : Headed sc.file d e
  unfolding entry_rows
  next = headed sc.file d e r (first-both (head_rows sc.file d e) _ (sym j.verdict-is ∙ a)).0

  pub entry_in : e + 32 ≤ length sc.file
  entry_in = fixed_in sc.file e next.entry

module _ (sc : Scan) (flags : List ℕ) (d n e k : ℕ) (i : Entries sc flags d n e k) where
  module _ (after : List ℕ) (v : Verdict) (j : AnsweredMarked sc.file (entry_rows sc d e) after sc.release v) (l : k < n) where
    rows-here : first (entry_rows sc d (entry_place sc.file k)) ≡ v
    rows-here = rw (← i.place) (sym j.verdict-is)

    pub entries_next : (p : ℕ) → RoomIn sc.file d → v ≡ Accepted → p ≡ next_entry sc.file e → Entries sc after d n p (k + 1)
    unfolding entry_place
    entries_next p r a f = record {
      count = omega arith;
      place = rw (f, add-one, i.place);
      within = rw f (next sc d e r after v j a).next;
      accepted = rows_more k _ i.accepted (rows-here ∙ a);
      marked = j.marked;
    }

    pub entries-stop : (r : Refusal) → v ≡ Err r → Err r ≡ first (rows_below n (λ i. entry_rows sc d (entry_place sc.file i)))
    entries-stop r a = sym (rows-stop n k _ r l i.accepted (rows-here ∙ a))

  pub entries-end : n ≤ k → Accepted ≡ first (rows_below n (λ i. entry_rows sc d (entry_place sc.file i)))
  entries-end h = let f : k ≡ n = omega (arith, i.count) in sym (rw f at i.accepted)

-- ---- the directory at d that the file segment names, where its fixed part fits

module _ (bs : List ℕ) (d : ℕ) (i : d ≡ directory_position bs) where
  pub room_at : RoomIn bs (directory_position bs) → RoomIn bs d
  room_at r = rw i r

  module _ (t : Bool) (j : t ≡ directory_bad bs d) (a : t ≡ false) where
    -- its first entry begins in its room
    pub first-in : entry_place bs 0 ≤ room_end bs d
    unfolding directory_bad room_end entry_place
    first-in = let r = ltb-false (room bs d) 128 (none _ (sym j ∙ a) 0) in omega (arith, i)

    pub count-in : RoomIn bs (directory_position bs) → d + 36 ≤ length bs
    unfolding directory_bad
    count-in r = let f = ltb-false (room bs d) 128 (none _ (sym j ∙ a) 0) in omega (arith, room_at r)
