-- `tiles::lent_mask` meets its contract.
use mathlib.Core.Path.{refl, sym, ◌∙◌}
use native.Mathlib.Omega.{arith}
use Rattle.tiles.proofs.EntryTiles.{mask-lined, mask-off, mask-none, mask-some}
use Rattle.tiles.proofs.lent_mask.Goals as goal

pub returns-then-not-on : goal.returns-then-not-on
returns-then-not-on c = search mask-off

pub returns-in_err-mask : goal.returns-in_err-mask
returns-in_err-mask c =
    rw c.from_residual.ensures (mask-none (sym c.mask_of.ensures ∙ c.in_err-mask.was))

pub overflow_add-from : goal.overflow_add-from
overflow_add-from c =
    let i = mask-lined (c.requires c.if-not-on.false) (sym c.mask_of.ensures ∙ c.in_ok-mask.was) in
    omega (arith, i.lines)

pub slice_bounds-result-count : goal.slice_bounds-result-count
slice_bounds-result-count c =
    let i = mask-lined (c.requires c.if-not-on.false) (sym c.mask_of.ensures ∙ c.in_ok-mask.was) in
    omega (arith, i.lines)

pub slice_bounds-result-start : goal.slice_bounds-result-start
slice_bounds-result-start c =
    let i = mask-lined (c.requires c.if-not-on.false) (sym c.mask_of.ensures ∙ c.in_ok-mask.was) in
    omega (arith, i.lines)

pub returns : goal.returns
returns c =
    let e = sym c.mask_of.ensures ∙ c.in_ok-mask.was in
    mask-some c.if-not-on.false e (mask-lined (c.requires c.if-not-on.false) e) refl refl refl refl refl
