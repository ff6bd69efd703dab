-- The covered counts of a box's parts, each by a call of its own, add up. Assumes nothing.
use Prim.Native.Nat.{ℕ, ◌+◌}
use mathlib.Core.Path.{◌≡◌, refl, sym, ap₂, ◌∙◌}
use mathlib.Core.Logic.{⊎_elim}
use mathlib.Core.List.{List, [], ◌∷◌}
use Rattle.plane.specs.Tiles.{covered, within}
use Rattle.plane.specs.Partition.{within_all}
use Rattle.plane.proofs.Partitions.{adds-up}
use Rattle.question.specs.Call.{Asked, asked_window, selected, answer, covered_in}
use Rattle.counting.specs.Claims.{summary_box}
use Rattle.counting.specs.Parts.{Part, part_asked, part_window, windows, Counted, AllCounted, covered_sum, AllPartsAdd}
use Rattle.counting.proofs.Uses.{count-is, all-used}
use Rattle.counting.proofs.Boxes.{all-boxed}

-- the same tiles are selected for a part
part-selected : (a : Asked) (p : Part) → selected (part_asked a p) ≡ selected a
unfolding selected
part-selected a p = refl

-- its count is that of its window
part_count : (a : Asked) (p : Part) → Counted a p
    → covered_in (answer p.kind (part_asked a p) p.target p.map) ≡ within (part_window a p) (covered (selected a))
part_count a p c =
    ⊎_elim
    (λ e. count-is (part_asked a p) p.kind p.target p.map e ∙ rw (part-selected a p))
    (λ z. (all-used (part_asked a p)).none_counted z p.kind p.target p.map ∙ sym ((all-used a).none_covered (part_window a p) z))
    c

sum_is : (a : Asked) (ps : List Part) → AllCounted a ps → covered_sum a ps ≡ within_all (windows a ps) (covered (selected a))
unfolding within_all
sum_is a [] c = refl
sum_is a (p ∷ ps) c = ap₂ (λ (n m : ℕ). n + m) (part_count a p c.0) (sum_is a ps c.1)

pub all-parts-add : AllPartsAdd
all-parts-add a ps = record {
  box = λ w p c. sum_is a ps c ∙ sym (adds-up w (windows a ps) p (covered (selected a)));
  call = λ p c k t m e. sum_is a ps c ∙ sym (adds-up (asked_window a) (windows a ps) p (covered (selected a))) ∙ sym (count-is a k t m e);
  summary = λ p c h w s.
      sum_is a ps c ∙ sym (adds-up (summary_box a.scan) (windows a ps) p (covered (selected a))) ∙ sym ((all-boxed a h).whole w s);
}
