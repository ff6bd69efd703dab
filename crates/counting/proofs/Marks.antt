-- The marks by their values, and the counts by the marks. Assumes nothing.
use Prim.Native.Nat.{ℕ, ◌≤◌, ◌<◌}
use mathlib.Core.Path.{◌≡◌, refl, sym, ap, ◌∙◌}
use mathlib.Core.List.{List}
use mathlib.Core.Bool.{Bool, true, false, cond}
use native.Mathlib.Omega.{arith}
use lib.ListN.{length, get_or, get_or-eq_default}
use lib.Dec.{eqb, ltb}
use borrow.Author.Tests.{lt-ltb, le-ltb}
use Rattle.format.specs.Directory.{tile_count}
use Rattle.format.specs.Records.{tile_entry}
use Rattle.plane.specs.Sums.{one}
use Rattle.plane.proofs.Tests.{by-lt}
use Rattle.plane.proofs.SumLaws.{sum-ext, length-tab, getD-tab}
use Rattle.counting.specs.Chosen.{Sought, selects_at, meets_at, mark_at, counts_below, marks_below, marks_of}
use Rattle.counting.specs.Claims.{Marks, AllMarks}
use Rattle.counting.proofs.Marking.{marked-selected}

-- a mark of 2 says that its tile is selected and shares a pixel with the window
marked-meeting : (q : Sought) (e : ℕ) → meets_at q e ≡ eqb (mark_at q e) 2
unfolding mark_at
marked-meeting q e = go (meets_at q e) (selects_at q e)
  where
    go : (m p : Bool) → m ≡ eqb (cond m 2 (cond p 1 0)) 2
    go true p = refl
    go false true = refl
    go false false = refl

module _ (q : Sought) (before : List ℕ) where
  same_size : length (marks_of q before) ≡ length before
  unfolding marks_below
  same_size = length-tab (length before) _

  at : (k : ℕ) → k < length before → get_or (marks_of q before) k 0 ≡ cond (ltb k (tile_count q.scan.file)) (mark_at q (tile_entry q.scan k)) (get_or before k 0)
  unfolding marks_below
  at k h = getD-tab (length before) _ k h

  past : (k : ℕ) → tile_count q.scan.file ≤ k → get_or (marks_of q before) k 0 ≡ get_or before k 0
  past k h =
      by-lt k (length before)
      (λ l. at k l ∙ rw (le-ltb k (tile_count q.scan.file) h))
      (λ l. get_or-eq_default (marks_of q before) 0 {n = k} (omega (arith, same_size)) ∙ sym (get_or-eq_default before 0 {n = k} l))

  module _ (room : tile_count q.scan.file ≤ length before) where
    mark : (k : ℕ) → k < tile_count q.scan.file → get_or (marks_of q before) k 0 ≡ mark_at q (tile_entry q.scan k)
    mark k h = at k (omega arith) ∙ rw (lt-ltb k (tile_count q.scan.file) h)

    as-selected : (k : ℕ) → k < tile_count q.scan.file → selects_at q (tile_entry q.scan k) ≡ ltb 0 (get_or (marks_of q before) k 0)
    as-selected k h = rw (mark k h) (sym (marked-selected q (tile_entry q.scan k)))

    as-meeting : (k : ℕ) → k < tile_count q.scan.file → meets_at q (tile_entry q.scan k) ≡ eqb (get_or (marks_of q before) k 0) 2
    as-meeting k h = rw (mark k h) (marked-meeting q (tile_entry q.scan k))

    marks : Marks q before
    unfolding counts_below
    marks = record {
      size_is = same_size;
      each = mark;
      rest = past;
      selected_are = sum-ext (tile_count q.scan.file) _ _ (λ k h. ap one (as-selected k h));
      meeting_are = sum-ext (tile_count q.scan.file) _ _ (λ k h. ap one (as-meeting k h));
    }

pub all-marks : AllMarks
all-marks q before room = marks q before room
