-- Which tiles a question selects, which of them share a pixel with its window, and how many: by the definitions that the composers use.
use Rattle.std.specs.Prelude.{ℕ, ◌≡◌, List, [], ◌∷◌, ◌++◌, Bool, cond, ◌&&◌, Result, length, get_or, ltb, ℤ}
use Rattle.format.specs.Scan.{Scan, scan_of}
use Rattle.format.specs.Checks.{Verdict, row, first, number_of, place_of, if_accepted, answer_if, verdict_in, value_in}
use Rattle.format.specs.Directory.{tile_count}
use Rattle.format.specs.Records.{tile_entry}
use Rattle.format.specs.Rules.{checks}
use Rattle.format.specs.declared.Release.{Release}
use Rattle.format.specs.declared.Fault.TheVariants as Fault
use Rattle.format.specs.declared.Refusal.{Refusal}
use Rattle.plane.specs.Sums.{count, tab}
use Rattle.plane.specs.declared.Rect.{Rect}
use Rattle.selection.specs.Select.{selects}
use Rattle.tiles.specs.FileTile.{rectangle, meets}
use Rattle.question.specs.Question.{window_of}
use Rattle.counting.specs.declared.ChosenCounts.{ChosenCounts}

-- ---- what is asked

-- a scan, the starts that select its tiles, whether S may be any, and a window
pub record Sought : Type 0 where
  pub scan : Scan
  pub starts : List ℤ
  pub any_scene : Bool
  pub window : Rect

abbrev pub seek : List ℕ → Release → List ℤ → Bool → Rect → Sought
seek bs r starts any_scene w = record { scan = scan_of bs r; starts = starts; any_scene = any_scene; window = w }

abbrev pub sought : List ℕ → Release → List ℤ → Bool → ℤ → ℤ → ℕ → ℕ → Sought
sought bs r starts any_scene left top width height = seek bs r starts any_scene (window_of left top width height)

-- ---- one tile, whose entry stands at e

-- a rectangle and a window share a pixel: the window has one, and they meet
unfoldable pub shares : Rect → Rect → Bool
shares a w = (ltb 0 w.width && ltb 0 w.height) && meets a w

-- it is selected
unfoldable pub selects_at : Sought → ℕ → Bool
selects_at q e = selects q.scan.file q.starts q.any_scene e

-- it is selected, and shares a pixel with the window
unfoldable pub meets_at : Sought → ℕ → Bool
meets_at q e = selects_at q e && shares (rectangle q.scan.file e) q.window

-- its mark: 0 not selected, 1 selected, 2 selected and it shares a pixel with the window
unfoldable pub mark_at : Sought → ℕ → ℕ
mark_at q e = cond (meets_at q e) 2 (cond (selects_at q e) 1 0)

-- ---- all of them, by the number of the entry

-- how many of those below n are selected, and how many of the selected ones share a pixel with the window
unfoldable pub counts_below : Sought → ℕ → ChosenCounts
counts_below q n =
    record { selected = count n (λ k. selects_at q (tile_entry q.scan k)); meeting = count n (λ k. meets_at q (tile_entry q.scan k)) }

abbrev pub counts_of : Sought → ChosenCounts
counts_of q = counts_below q (tile_count q.scan.file)

-- the marks of the tiles below n; what is past them stays, and there are as many as before
unfoldable pub marks_below : Sought → List ℕ → ℕ → List ℕ
marks_below q before n = tab (length before) (λ k. cond (ltb k n) (mark_at q (tile_entry q.scan k)) (get_or before k 0))

abbrev pub marks_of : Sought → List ℕ → List ℕ
marks_of q before = marks_below q before (tile_count q.scan.file)

-- what marking and counting the tiles of the file bs leaves and answers, under every release
pub record TilesMarked (bs : List ℕ) (starts : List ℤ) (any_scene : Bool) (w : Rect) (before after : List ℕ) (r : ChosenCounts) : Type 0 where
  pub counts_are : (rel : Release) → r ≡ counts_of (seek bs rel starts any_scene w)
  pub marks-are : (rel : Release) → after ≡ marks_of (seek bs rel starts any_scene w) before

-- ---- the answer

-- the refusals in their order: the file's own, then 22 where fewer marks are lent than there are tiles
unfoldable pub chosen_verdict : Sought → ℕ → Verdict
chosen_verdict q lent = first (checks q.scan ++ (row Fault.LentTooShort 0 (ltb lent (tile_count q.scan.file)) ∷ []))

-- what a refusal counts
abbrev pub no_counts : ChosenCounts
no_counts = record { selected = 0; meeting = 0 }

-- the promise: the answer r, its number, place and counts, and the marks in the end, which are as they were lent where it refuses
pub record ChosenAnswered (q : Sought) (before after : List ℕ) (r : Result ChosenCounts Refusal) : Type 0 where
  pub answer_is : r ≡ answer_if (chosen_verdict q (length before)) (counts_of q)
  pub number_is : number_of (verdict_in r) ≡ number_of (chosen_verdict q (length before))
  pub place_is : place_of (verdict_in r) ≡ place_of (chosen_verdict q (length before))
  pub counts_are : value_in no_counts r ≡ if_accepted (chosen_verdict q (length before)) (counts_of q) no_counts
  pub marks-are : after ≡ if_accepted (chosen_verdict q (length before)) (marks_of q before) before
