-- `settings::masks_line` meets its contract.
use mathlib.Core.Path.{sym}
use Rattle.text.specs.Text.{line}
use Rattle.settings.specs.Settings.{name_masks, masks_line}
use Rattle.settings.proofs.FoundLines.{masks-lacking, masks-on, masks-off, masks-wrong}
use Rattle.settings.proofs.masks_line.Goals as goal

pub returns-then-is_empty : goal.returns-then-is_empty
returns-then-is_empty c = masks-lacking _ (sym c.if-is_empty.ensures)

pub returns-then-eq : goal.returns-then-eq
unfolding masks_line line name_masks
returns-then-eq c = masks-on _ (sym c.if-is_empty.ensures) (rw c.as_slice.ensures at (sym c.if-eq.ensures))

pub returns-then-eq-2 : goal.returns-then-eq-2
unfolding masks_line line name_masks
returns-then-eq-2 c =
    masks-off _ (sym c.if-is_empty.ensures) (rw c.as_slice.ensures at (sym c.if-eq.ensures)) (rw c.as_slice-2.ensures at (sym c.if-eq-2.ensures))

pub returns : goal.returns
unfolding masks_line line name_masks
returns c =
    masks-wrong _ (sym c.if-is_empty.ensures) (rw c.as_slice.ensures at (sym c.if-eq.ensures)) (rw c.as_slice-2.ensures at (sym c.if-eq-2.ensures))
