-- `subblocks::layer_pixels_place` meets its contract.
use Prim.Native.Nat.{◌+◌, ◌*◌}
use mathlib.Core.Path.{◌≡◌}
use native.Mathlib.Omega.{arith}
use Rattle.format.specs.SubBlock.{layer_pixels_place}
use Rattle.subblocks.proofs.PartLaws.{layer-small, layer-within, first-layer, later-layer}
use Rattle.subblocks.proofs.layer_pixels_place.Goals as goal

pub returns-then-l-eq0 : goal.returns-then-l-eq0
returns-then-l-eq0 c = search first-layer

pub layer_size-requires : goal.layer_size-requires
layer_size-requires c =
    let p = c.requires.0 in
    (p.agreed.placed.listed, omega (arith, layer-small _ _ _ _ p))

pub overflow_mul-result : goal.overflow_mul-result
overflow_mul-result c =
    let p = c.requires in
    omega (arith, layer-within _ _ _ _ p.0 _ _ _ p.1 c.pixels_place-first.ensures c.layer_size.ensures)

pub overflow_add-result : goal.overflow_add-result
overflow_add-result c =
    let p = c.requires in
    omega (arith, layer-within _ _ _ _ p.0 _ _ _ p.1 c.pixels_place-first.ensures c.layer_size.ensures)

pub returns : goal.returns
returns c =
    let a = c.args in
    let h : c.pixels_place-first.result + a.l * c.layer_size.result ≡ layer_pixels_place a.d.now a.e a.s.now a.q a.l = search later-layer in
    omega (arith, h)
