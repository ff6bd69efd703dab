-- `entries::layer_count` meets its contract.
use native.Mathlib.Omega.{arith}
use Rattle.format.specs.Entry.{layer_count}
use Rattle.format.proofs.Flags.{is_true, is_false}
use Rattle.entries.proofs.EntryLaws.{layers-in, layers-placed}
use Rattle.entries.proofs.layer_count.Goals as goal

pub size_at-requires : goal.size_at-requires
size_at-requires c = search layers-in

pub returns-then-is_layered : goal.returns-then-is_layered
unfolding layer_count
returns-then-is_layered c =
    let h = is_true _ _ c.is_layered.ensures c.if-is_layered.true in
    let p = rw (← c.layers_place.ensures, ← c.size_at.ensures.0) at (layers-placed _ _ h).several in (
      rw (h, ← c.layers_place.ensures) c.size_at.ensures.0,
      omega (arith, p),
      c.size_at.ensures.1,
    )

pub returns : goal.returns
unfolding layer_count
returns c = (rw (is_false _ _ c.is_layered.ensures c.if-is_layered.false), omega arith, omega arith)
