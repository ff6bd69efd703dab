-- Demands 2 and 3 about whole calls: whatever the file's bytes, the question and the lent bytes are.
use Rattle.std.specs.Prelude.{ℕ, ◌+◌, ◌-◌, ◌*◌, ◌/◌, ◌^◌, ◌≤◌, ◌<◌, ◌≡◌, List, length, ℤ, pos, negsuc, ◌+ℤ◌, Result}
use Rattle.format.specs.Checks.{Accepted, Refused, number}
use Rattle.format.specs.declared.Fault.{Fault}
use Rattle.format.specs.declared.Refusal.{Refusal}
use Rattle.plane.specs.Sums.{sum}
use Rattle.plane.specs.Paint.{ones}
use Rattle.plane.specs.Tiles.{Ranked, area, within, covered, sum_over}
use Rattle.plane.specs.Turns.{Painting, Kind, plain, quick, added}
use Rattle.plane.specs.Demand2.{Plane}
use Rattle.plane.specs.Cuts.{Line, column, row, Cuts, fore, rear, Halves, SamePixels}
use Rattle.plane.specs.Demand3 as Runs
use Rattle.question.specs.Call.{Asked, call_verdict, asked_window, asked_bytes, selected, painted}
use Rattle.question.specs.Call.{answer, target_after, map_after, number_in, place_in, covered_in, stored_in, Answered}
use Rattle.question.specs.declared.WindowRequest.{WindowRequest}
use Rattle.question.specs.declared.Counts.{Counts}

-- a number of 32 bits, signed: what left and top are
abbrev pub Int32 : ℤ → Type 0
Int32 (pos n) = n < 2 ^ 31
Int32 (negsuc n) = n < 2 ^ 31

-- ---- a straight line cuts the window of a question into two: everything else is given exactly as the whole window's call was

abbrev pub fore_request : Line → WindowRequest → WindowRequest
fore_request (column c) f = record { pixel_type = f.pixel_type; left = f.left; top = f.top; width = c; height = f.height; masks = f.masks }
fore_request (row c) f = record { pixel_type = f.pixel_type; left = f.left; top = f.top; width = f.width; height = c; masks = f.masks }

abbrev pub rear_request : Line → WindowRequest → WindowRequest
rear_request (column c) f = record { pixel_type = f.pixel_type; left = f.left +ℤ pos c; top = f.top; width = f.width - c; height = f.height; masks = f.masks }
rear_request (row c) f = record { pixel_type = f.pixel_type; left = f.left; top = f.top +ℤ pos c; width = f.width; height = f.height - c; masks = f.masks }

abbrev pub fore_of : Line → Asked → Asked
fore_of l a = record { scan = a.scan; starts = a.starts; any_scene = a.any_scene; request = fore_request l a.request; background = a.background }

abbrev pub rear_of : Line → Asked → Asked
rear_of l a = record { scan = a.scan; starts = a.starts; any_scene = a.any_scene; request = rear_request l a.request; background = a.background }

-- a lent target and map with room enough for a question's window
pub record RoomFor (a : Asked) (t m : List ℕ) : Type 0 where
  pub target : area (asked_window a) * asked_bytes a ≤ length t
  pub map : (area (asked_window a) + 7) / 8 ≤ length m

-- a call's lent bytes in the end and its store count
abbrev pub after : Kind → Asked → List ℕ → List ℕ → Painting
after k a t m = record { target = target_after k a t m; map = map_after k a t m; stored = stored_in (answer k a t m) }

-- ---- the claim, of what is asked and of the lent target t and map m

pub record Demand3 (a : Asked) (t m : List ℕ) : Type 0 where
  -- the two composers agree: same refusal number and place, or same covered count and same final bytes in target and map
  pub same_number : number_in (answer plain a t m) ≡ number_in (answer quick a t m)
  pub same_place : place_in (answer plain a t m) ≡ place_in (answer quick a t m)
  pub same_covered : covered_in (answer plain a t m) ≡ covered_in (answer quick a t m)
  pub same_target : target_after plain a t m ≡ target_after quick a t m
  pub same_map : map_after plain a t m ≡ map_after quick a t m
  -- a refused call gives counts 0 and changes no lent byte
  pub refused : (f : Fault) (p : ℕ) → call_verdict a (length t) (length m) ≡ Refused f p → (k : Kind)
      → (number_in (answer k a t m) ≡ number f) × (place_in (answer k a t m) ≡ p) × (covered_in (answer k a t m) ≡ 0) × (stored_in (answer k a t m) ≡ 0)
      × (target_after k a t m ≡ t) × (map_after k a t m ≡ m)
  -- an accepted call, by either composer: what it leaves is its whole run, which is demand 2's plane, and its counts are the run's
  pub accepted : call_verdict a (length t) (length m) ≡ Accepted → (k : Kind)
      → (after k a t m ≡ painted k a t m)
      × Plane (asked_window a) (asked_bytes a) a.background (selected a) t m (target_after k a t m) (map_after k a t m)
      × (covered_in (answer k a t m) ≡ ones (area (asked_window a)) (map_after k a t m))
      × (covered_in (answer k a t m) ≡ within (asked_window a) (covered (selected a)))
      × (stored_in (answer k a t m) ≡ sum (length (selected a)) (added k (asked_window a) (asked_bytes a) a.background (selected a) t m))
  -- the store counts: the quick one's is the covered count, the plain one's the sum of the selected tiles' unmasked pixels in the window
  pub quick_stores : stored_in (answer quick a t m) ≡ covered_in (answer quick a t m)
  pub plain_stores : call_verdict a (length t) (length m) ≡ Accepted
      → stored_in (answer plain a t m) ≡ sum_over (selected a) (λ s. within (asked_window a) s.gives)
  -- no two selected tiles have one rank, and so of both composers' whole lists of turns holds all that demand 3 says of them:
  -- each turn of the quick one changes only pixels not yet covered, and of all its turns at most one gives a pixel
  pub ranked : call_verdict a (length t) (length m) ≡ Accepted → Ranked (selected a)
  pub runs : call_verdict a (length t) (length m) ≡ Accepted → Runs.Demand3 (asked_bytes a) a.background (selected a)
  -- a cut window adds up, whichever composer serves the whole and each half: each pixel is in one half, and the halves can be asked
  pub cut : call_verdict a (length t) (length m) ≡ Accepted → (l : Line) → Cuts l (asked_window a) → (k k₁ k₂ : Kind) (t₁ m₁ t₂ m₂ : List ℕ)
      → RoomFor (fore_of l a) t₁ m₁ → RoomFor (rear_of l a) t₂ m₂
      → Halves l (asked_window a) × Int32 (rear_request l a.request).left × Int32 (rear_request l a.request).top
      × (asked_window (fore_of l a) ≡ fore l (asked_window a)) × (asked_window (rear_of l a) ≡ rear l (asked_window a))
      × (call_verdict (fore_of l a) (length t₁) (length m₁) ≡ Accepted) × (call_verdict (rear_of l a) (length t₂) (length m₂) ≡ Accepted)
      × SamePixels (asked_bytes a) (asked_window a) (fore l (asked_window a)) (after k a t m) (after k₁ (fore_of l a) t₁ m₁)
      × SamePixels (asked_bytes a) (asked_window a) (rear l (asked_window a)) (after k a t m) (after k₂ (rear_of l a) t₂ m₂)
      × (covered_in (answer k a t m) ≡ covered_in (answer k₁ (fore_of l a) t₁ m₁) + covered_in (answer k₂ (rear_of l a) t₂ m₂))

-- demand 3, entire: of any file bytes, any question and any lent bytes
abbrev pub AllCalls : Type 0
AllCalls = (a : Asked) → Int32 a.request.left → Int32 a.request.top → (t m : List ℕ) → Demand3 a t m

-- two calls that keep the composers' promises, one of each, agree
abbrev pub Agree : Type 0
Agree = (a : Asked) → Int32 a.request.left → Int32 a.request.top → (t m t₁ m₁ t₂ m₂ : List ℕ) (r₁ r₂ : Result Counts Refusal)
    → Answered plain a t m t₁ m₁ r₁ → Answered quick a t m t₂ m₂ r₂
    → (number_in r₁ ≡ number_in r₂) × (place_in r₁ ≡ place_in r₂) × (covered_in r₁ ≡ covered_in r₂) × (t₁ ≡ t₂) × (m₁ ≡ m₂)
