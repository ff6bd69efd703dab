-- `masks::chunk_at` meets its contract.
use mathlib.Core.Path.{sym, ◌∙◌}
use Rattle.format.specs.Masks.{chunk_at}
use Rattle.masks.proofs.chunk_at.Goals as goal
use Rattle.masks.proofs.chunk_at.Goals.{then-is_mask, else-is_mask}

pub returns : goal.returns
unfolding chunk_at
returns c =
    elim c.if-is_mask.branch [
      | then-is_mask w ↦ rw (w.mask-is, sym c.is_mask.ensures ∙ w.if-is_mask.true, ← c.chunk_size.ensures.0, ← w.mask_shape.ensures)
      | else-is_mask w ↦ rw (w.mask-is, sym c.is_mask.ensures ∙ w.if-is_mask.false, ← c.chunk_size.ensures.0)
    ]
