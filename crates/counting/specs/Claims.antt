-- What a count of covered pixels rests on: the marks, sharing a pixel, the composers' own selection, and the summary's box.
use Rattle.std.specs.Prelude.{ℕ, ◌-◌, ◌≤◌, ◌<◌, ◌≡◌, ◌↔◌, List, true, Option, Some, None, length, get_or, eqb, ltb}
use Rattle.format.specs.Scan.{Scan}
use Rattle.format.specs.Bytes.{shifted}
use Rattle.format.specs.Directory.{tile_count}
use Rattle.format.specs.Records.{tile_entry}
use Rattle.format.specs.Rules.{verdict}
use Rattle.format.specs.Checks.{Accepted}
use Rattle.plane.specs.Sums.{count}
use Rattle.plane.specs.Tiles.{covers, covered, within}
use Rattle.plane.specs.Turns.{Kind}
use Rattle.plane.specs.declared.Rect.{Rect}
use Rattle.tiles.specs.FileTile.{rectangle, meets}
use Rattle.question.specs.Call.{Asked, chosen, asked_window, selected, answer, covered_in}
use Rattle.listing.specs.Summary.{left, top, right, bottom, tile_box, summary_of}
use Rattle.listing.specs.declared.TileBox.{TileBox}
use Rattle.counting.specs.Chosen.{Sought, shares, selects_at, meets_at, mark_at, counts_of, marks_of}

-- ---- the marks

-- of what is asked and the marks that are lent, at least as many as there are tiles
pub record Marks (q : Sought) (before : List ℕ) : Type 0 where
  -- as many as before; each tile's own, and past them what was there
  pub size_is : length (marks_of q before) ≡ length before
  pub each : (k : ℕ) → k < tile_count q.scan.file → get_or (marks_of q before) k 0 ≡ mark_at q (tile_entry q.scan k)
  pub rest : (k : ℕ) → tile_count q.scan.file ≤ k → get_or (marks_of q before) k 0 ≡ get_or before k 0
  -- so many are 1 or 2, and so many are 2
  pub selected_are : (counts_of q).selected ≡ count (tile_count q.scan.file) (λ k. ltb 0 (get_or (marks_of q before) k 0))
  pub meeting_are : (counts_of q).meeting ≡ count (tile_count q.scan.file) (λ k. eqb (get_or (marks_of q before) k 0) 2)

abbrev pub AllMarks : Type 0
AllMarks = (q : Sought) (before : List ℕ) → tile_count q.scan.file ≤ length before → Marks q before

-- ---- sharing a pixel

-- a plane pixel that both cover
pub record Shared (a w : Rect) : Type 0 where
  pub u : ℕ
  pub v : ℕ
  pub first : covers a u v ≡ true
  pub second : covers w u v ≡ true

-- a rectangle with a pixel and a window, which may have none, share a pixel exactly when there is one that both cover
abbrev pub Sharing : Type 0
Sharing = (a w : Rect) → 1 ≤ a.width → 1 ≤ a.height → (shares a w ≡ true) ↔ Shared a w

-- in a window with a pixel it is what the composers ask
abbrev pub Meeting : Type 0
Meeting = (a w : Rect) → 1 ≤ w.width → 1 ≤ w.height → shares a w ≡ meets a w

-- so tile k of an accepted file is counted as meeting the window exactly when it is selected and covers a pixel of the window
abbrev pub TileSharing : Type 0
TileSharing = (q : Sought) → verdict q.scan ≡ Accepted → (k : ℕ) → k < tile_count q.scan.file
    → (meets_at q (tile_entry q.scan k) ≡ true)
    ↔ ((selects_at q (tile_entry q.scan k) ≡ true) × Shared (rectangle q.scan.file (tile_entry q.scan k)) q.window)

-- ---- what is counted is what the composers use

-- the scan, starts and scene of a question, and the window w
abbrev pub sought_in : Asked → Rect → Sought
sought_in a w = record { scan = a.scan; starts = a.starts; any_scene = a.any_scene; window = w }

pub record Used (a : Asked) : Type 0 where
  -- as many tiles are counted as selected as the composers select, whatever the window
  pub selected_are : (w : Rect) → (counts_of (sought_in a w)).selected ≡ length (selected a)
  -- where none of them is counted as meeting a window, no pixel of it is covered
  pub none_covered : (w : Rect) → (counts_of (sought_in a w)).meeting ≡ 0 → within w (covered (selected a)) ≡ 0
  -- and so either composer's covered count is 0 where that is the question's window
  pub none_counted : (counts_of (sought_in a (asked_window a))).meeting ≡ 0 → (k : Kind) (t m : List ℕ) → covered_in (answer k a t m) ≡ 0

abbrev pub AllUsed : Type 0
AllUsed = (a : Asked) → Used a

-- ---- the summary's box holds every selected tile

-- the box that a summary answers as a rectangle in plane coordinates, right and bottom being exclusive: no pixel where there is no box
abbrev pub box_of : Option TileBox → Rect
box_of (Some b) =
    record { left = shifted b.left; top = shifted b.top; width = shifted b.right - shifted b.left; height = shifted b.bottom - shifted b.top }
box_of None = record { left = 0; top = 0; width = 0; height = 0 }

abbrev pub summary_box : Scan → Rect
summary_box sc = box_of (summary_of sc.file).bounds

-- the one rectangle holds the other
abbrev pub Holds : Rect → Rect → Type 0
Holds w a = (u v : ℕ) → covers a u v ≡ true → covers w u v ≡ true

pub record Boxed (a : Asked) : Type 0 where
  -- where a tile is selected there is a box, with the corners of all tiles that aren't pyramid tiles
  pub some : (k : ℕ) → k < tile_count a.scan.file → chosen a k ≡ true
      → (summary_of a.scan.file).bounds ≡ Some (tile_box (left a.scan.file) (top a.scan.file) (right a.scan.file) (bottom a.scan.file))
  -- it holds every selected tile
  pub holds : (k : ℕ) → k < tile_count a.scan.file → chosen a k ≡ true → Holds (summary_box a.scan) (rectangle a.scan.file (tile_entry a.scan k))
  -- and so every covered pixel
  pub covered_in : (u v : ℕ) → covered (selected a) u v ≡ true → covers (summary_box a.scan) u v ≡ true
  -- what lies outside of it adds nothing: windows with the same pixels of it have the same count, and one that holds it has its count
  pub outside : (w w' : Rect) → ((u v : ℕ) → covers (summary_box a.scan) u v ≡ true → covers w u v ≡ covers w' u v)
      → within w (covered (selected a)) ≡ within w' (covered (selected a))
  pub whole : (w : Rect) → Holds w (summary_box a.scan) → within w (covered (selected a)) ≡ within (summary_box a.scan) (covered (selected a))

abbrev pub AllBoxed : Type 0
AllBoxed = (a : Asked) → verdict a.scan ≡ Accepted → Boxed a
