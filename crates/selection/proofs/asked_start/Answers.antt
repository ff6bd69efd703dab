-- `selection::asked_start` meets its contract.
use Prim.Native.Nat.{◌-◌}
use mathlib.Core.Path.{◌≡◌, ◌∙◌}
use native.Mathlib.Omega.{arith}
use lib.IntN.{pos}
use lib.ListN.{get_or}
use Rattle.entries.proofs.ReadBack.{read_back}
use Rattle.format.specs.Choice.{asked_start}
use Rattle.selection.proofs.asked_start.Goals as goal

pub returns : goal.returns
unfolding asked_start
returns c =
    let given : c.unwrap_or.result ≡ get_or c.args.starts.now (c.args.x - 65) (pos 0) =
    c.unwrap_or.ensures ∙ rw c.copied-given.ensures (c.get.ensures.lookup.4 (omega arith) (pos 0)) in
    c.shifted_of.ensures.0 ∙ rw (read_back c.unwrap_or.result c.unwrap_or.type_inv, given)
