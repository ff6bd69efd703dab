-- How the answer comes about: by the verdict on the file bs under the release rel, which was answered as v, and by how many marks are lent. Assumes nothing.
use Prim.Native.Nat.{ℕ, ◌≤◌, ◌<◌}
use mathlib.Core.Path.{◌≡◌, sym, ap, ◌∙◌}
use mathlib.Core.List.{List}
use mathlib.Core.Bool.{Bool}
use lib.ListN.{length}
use lib.IntN.{ℤ}
use Rattle.std.specs.Prelude.{Ok, Err}
use borrow.Author.Tests.{lt-ltb, le-ltb}
use Rattle.format.specs.Scan.{scan_of}
use Rattle.format.specs.Directory.{tile_count}
use Rattle.format.specs.Rules.{checks, verdict}
use Rattle.format.specs.Answers.{VerdictAnswered}
use Rattle.format.specs.declared.Release.{Release}
use Rattle.format.specs.Checks.{Verdict, Accepted, refusal}
use Rattle.format.specs.declared.Fault.TheVariants as Fault
use Rattle.format.specs.declared.Refusal.{Refusal}
use Rattle.format.proofs.Firsts.{first-pass, first-stop}
use Rattle.plane.specs.declared.Rect.{Rect}
use Rattle.counting.specs.Chosen.{Sought, seek, counts_of, marks_of, TilesMarked, chosen_verdict, ChosenAnswered}
use Rattle.counting.specs.declared.ChosenCounts.{ChosenCounts}

-- ---- by the verdict on the call

module _ (q : Sought) (before : List ℕ) where
  refused-so : (r : Refusal) → chosen_verdict q (length before) ≡ Err r → ChosenAnswered q before before (Err r)
  refused-so r e = record { answer_is = rw e; number_is = rw e; place_is = rw e; counts_are = rw e; marks-are = rw e }

  found-so : {after : List ℕ} {r : ChosenCounts} → chosen_verdict q (length before) ≡ Accepted → r ≡ counts_of q → after ≡ marks_of q before
      → ChosenAnswered q before after (Ok r)
  found-so e h i = record { answer_is = rw e (ap (λ (c : ChosenCounts). Ok c) h); number_is = rw e; place_is = rw e; counts_are = rw e h; marks-are = rw e i }

-- ---- by the verdict on the file

module _ (bs : List ℕ) (rel : Release) (starts : List ℤ) (any_scene : Bool) (w : Rect) (before : List ℕ) {v : Verdict}
    (a : VerdictAnswered (verdict (scan_of bs rel)) v) where
  pub chosen-refused : (r : Refusal) → v ≡ Err r → ChosenAnswered (seek bs rel starts any_scene w) before before (Err r)
  unfolding chosen_verdict verdict
  chosen-refused r h = refused-so (seek bs rel starts any_scene w) before r (first-stop (checks (scan_of bs rel)) _ r (sym a.answer_is ∙ h))

  module _ (h : v ≡ Accepted) (n : ℕ) (e : n ≡ tile_count bs) where
    pub chosen-short : length before < n → ChosenAnswered (seek bs rel starts any_scene w) before before (Err (refusal Fault.LentTooShort 0))
    unfolding chosen_verdict verdict
    chosen-short l =
        refused-so (seek bs rel starts any_scene w) before (refusal Fault.LentTooShort 0)
        (first-pass (checks (scan_of bs rel)) _ (sym a.answer_is ∙ h) ∙ rw (← e, lt-ltb (length before) n l))

    -- w' is the window as the code made it
    pub chosen-found : {after : List ℕ} {r : ChosenCounts} {w' : Rect} → n ≤ length before → w' ≡ w → TilesMarked bs starts any_scene w' before after r
        → ChosenAnswered (seek bs rel starts any_scene w) before after (Ok r)
    unfolding chosen_verdict verdict
    chosen-found l f m =
        found-so (seek bs rel starts any_scene w) before
        (first-pass (checks (scan_of bs rel)) _ (sym a.answer_is ∙ h) ∙ rw (← e, le-ltb (length before) n l))
        (rw (← f) (m.counts_are rel))
        (rw (← f) (m.marks-are rel))
