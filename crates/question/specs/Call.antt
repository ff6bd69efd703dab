-- A whole call of a composer: its verdict, its answer, and what the lent target and map hold in the end.
use Rattle.std.specs.Prelude.{ℕ, ◌≡◌, List, ◌∷◌, ◌++◌, Bool, length, ℤ, Result, Ok, Err}
use Rattle.format.specs.Scan.{Scan}
use Rattle.format.specs.Choice.{Choice}
use Rattle.format.specs.Checks.{Verdict, row, first, if_accepted, number_of, place_of, answer_if, verdict_in}
use Rattle.format.specs.Entry.{pixel_bytes}
use Rattle.format.specs.Directory.{tile_count}
use Rattle.format.specs.Rules.{checks}
use Rattle.format.specs.declared.Refusal.{Refusal}
use Rattle.plane.specs.Paint.{ones}
use Rattle.plane.specs.Tiles.{Tile, area}
use Rattle.plane.specs.Turns.{Painting, Kind, compose}
use Rattle.plane.specs.declared.Rect.{Rect}
use Rattle.selection.specs.Select.{chooses}
use Rattle.tiles.specs.FileTile.{tiles_below}
use Rattle.question.specs.Question.{masks_on, request_window, ask_rows, agree_rows}
use Rattle.question.specs.declared.WindowRequest.{WindowRequest}
use Rattle.question.specs.declared.Counts.{Counts}
use Rattle.format.specs.declared.Fault.TheVariants as Fault

-- what a call is given, the lent target and map aside
pub record Asked : Type 0 where
  pub scan : Scan
  pub starts : List ℤ
  pub any_scene : Bool
  pub request : WindowRequest
  pub background : List ℕ

-- what of it chooses tiles and says how they are painted
abbrev pub choice_of : Asked → Choice
choice_of a = record { scan = a.scan; starts = a.starts; any_scene = a.any_scene; masks = masks_on a.request.masks }

-- entry k is chosen: its tile is selected
abbrev pub chosen : Asked → ℕ → Bool
chosen a = chooses (choice_of a)

-- the refusals in their order: the file's own, then 20, 21, 22, then 23; of lent bytes of these lengths
unfoldable pub call_verdict : Asked → ℕ → ℕ → Verdict
call_verdict a target map =
    first
    (checks a.scan ++
    (ask_rows a.request a.background target map ++
    agree_rows a.scan.file (chosen a) (request_window a.request) a.request.pixel_type))

-- the refusals of a call that is lent one thing more, which may be too short: that is 22 too, and asked with target and map, before 23
unfoldable pub lending_verdict : Asked → ℕ → ℕ → Bool → Verdict
lending_verdict a target map short =
    first
    (checks a.scan ++
    (ask_rows a.request a.background target map ++
    (row Fault.LentTooShort 0 short ∷
    agree_rows a.scan.file (chosen a) (request_window a.request) a.request.pixel_type)))

-- the window, bytes a pixel, and the selected tiles
abbrev pub asked_window : Asked → Rect
asked_window a = request_window a.request

abbrev pub asked_bytes : Asked → ℕ
asked_bytes a = pixel_bytes a.request.pixel_type

unfoldable pub selected : Asked → List Tile
selected a = tiles_below (tile_count a.scan.file) (choice_of a) (chosen a)

-- the composer's whole run over the lent bytes t and m
abbrev pub painted : Kind → Asked → List ℕ → List ℕ → Painting
painted k a t m = compose k (asked_window a) (asked_bytes a) a.background (selected a) t m

-- ---- the answer

abbrev pub counts : ℕ → ℕ → Counts
counts covered stored = record { covered = covered; stored = stored }

-- by the verdict: the covered count, which is the map's ones, and the store count; or the refusal
unfoldable pub answer : Kind → Asked → List ℕ → List ℕ → Result Counts Refusal
answer k a t m =
    answer_if (call_verdict a (length t) (length m)) (counts (ones (area (asked_window a)) (painted k a t m).map) (painted k a t m).stored)

-- what target and map hold in the end: as they were lent where the call is refused
unfoldable pub target_after : Kind → Asked → List ℕ → List ℕ → List ℕ
target_after k a t m = if_accepted (call_verdict a (length t) (length m)) (painted k a t m).target t

unfoldable pub map_after : Kind → Asked → List ℕ → List ℕ → List ℕ
map_after k a t m = if_accepted (call_verdict a (length t) (length m)) (painted k a t m).map m

-- the paper's number, place, covered count and store count of each answer: a refusal gives counts 0
abbrev pub number_in : {A : Type 0} → Result A Refusal → ℕ
number_in r = number_of (verdict_in r)

abbrev pub place_in : {A : Type 0} → Result A Refusal → ℕ
place_in r = place_of (verdict_in r)

abbrev pub covered_in : Result Counts Refusal → ℕ
covered_in (Ok c) = c.covered
covered_in (Err e) = 0

abbrev pub stored_in : Result Counts Refusal → ℕ
stored_in (Ok c) = c.stored
stored_in (Err e) = 0

-- a composer's promise: its answer r, that answer's number, place and counts, and the end state of what was lent
pub record Answered (k : Kind) (a : Asked) (t m t' m' : List ℕ) (r : Result Counts Refusal) : Type 0 where
  pub answer_is : r ≡ answer k a t m
  pub number_is : number_in r ≡ number_of (call_verdict a (length t) (length m))
  pub place_is : place_in r ≡ place_of (call_verdict a (length t) (length m))
  pub covered-is : covered_in r ≡ if_accepted (call_verdict a (length t) (length m)) (ones (area (asked_window a)) (painted k a t m).map) 0
  pub stored_is : stored_in r ≡ if_accepted (call_verdict a (length t) (length m)) (painted k a t m).stored 0
  pub target_is : t' ≡ target_after k a t m
  pub map_is : m' ≡ map_after k a t m
