-- The covered counts of the parts of a box, each by a call of its own, add up.
use Rattle.std.specs.Prelude.{ℕ, ◌+◌, ◌≡◌, ◌⊎◌, List, [], ◌∷◌, length, ℤ}
use Rattle.format.specs.Rules.{verdict}
use Rattle.format.specs.Checks.{Accepted}
use Rattle.plane.specs.Tiles.{covered, within}
use Rattle.plane.specs.Turns.{Kind}
use Rattle.plane.specs.Partition.{Partition}
use Rattle.plane.specs.declared.Rect.{Rect}
use Rattle.question.specs.Call.{Asked, call_verdict, asked_window, selected, answer, covered_in}
use Rattle.counting.specs.Chosen.{counts_of}
use Rattle.counting.specs.Claims.{sought_in, summary_box, Holds}

-- a part: the composer that serves it, its window, and the target and the map that are lent for it
pub record Part : Type 0 where
  pub kind : Kind
  pub left : ℤ
  pub top : ℤ
  pub width : ℕ
  pub height : ℕ
  pub target : List ℕ
  pub map : List ℕ

-- its question: all but the window is given as in a
abbrev pub part_asked : Asked → Part → Asked
part_asked a p = record {
  scan = a.scan;
  starts = a.starts;
  any_scene = a.any_scene;
  request = record {
    pixel_type = a.request.pixel_type;
    left = p.left;
    top = p.top;
    width = p.width;
    height = p.height;
    masks = a.request.masks;
  };
  background = a.background;
}

abbrev pub part_window : Asked → Part → Rect
part_window a p = asked_window (part_asked a p)

abbrev pub windows : Asked → List Part → List Rect
windows a [] = []
windows a (p ∷ ps) = part_window a p ∷ windows a ps

-- its call is accepted, or no selected tile is counted as meeting its window: then it need not be made
abbrev pub Counted : Asked → Part → Type 0
Counted a p =
    (call_verdict (part_asked a p) (length p.target) (length p.map) ≡ Accepted) ⊎ ((counts_of (sought_in a (part_window a p))).meeting ≡ 0)

abbrev pub AllCounted : Asked → List Part → Type 0
AllCounted a [] = Unit {0}
AllCounted a (p ∷ ps) = Counted a p × AllCounted a ps

-- the sum of the covered counts
abbrev pub covered_sum : Asked → List Part → ℕ
covered_sum a [] = 0
covered_sum a (p ∷ ps) = covered_in (answer p.kind (part_asked a p) p.target p.map) + covered_sum a ps

-- the parts' covered counts add up to that of the box; to the whole call's where the box is its window and it is accepted; and, where the box is the
-- summary's, to the covered pixels of every window that holds it
pub record PartsAdd (a : Asked) (ps : List Part) : Type 0 where
  pub box : (w : Rect) → Partition w (windows a ps) → AllCounted a ps → covered_sum a ps ≡ within w (covered (selected a))
  pub call : Partition (asked_window a) (windows a ps) → AllCounted a ps → (k : Kind) (t m : List ℕ) → call_verdict a (length t) (length m) ≡ Accepted
      → covered_sum a ps ≡ covered_in (answer k a t m)
  pub summary : Partition (summary_box a.scan) (windows a ps) → AllCounted a ps → verdict a.scan ≡ Accepted
      → (w : Rect) → Holds w (summary_box a.scan) → covered_sum a ps ≡ within w (covered (selected a))

abbrev pub AllPartsAdd : Type 0
AllPartsAdd = (a : Asked) (ps : List Part) → PartsAdd a ps
