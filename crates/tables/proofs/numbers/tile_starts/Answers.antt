-- `tables::numbers::tile_starts` meets its contract.
use native.Mathlib.Omega.{arith}
use Rattle.entries.proofs.ReadBack.{read_back}
use Rattle.tables.specs.Numbers.{tile_starts}
use Rattle.tables.proofs.numbers.tile_starts.Goals as goal

pub returns : goal.returns
unfolding tile_starts
returns c =
    rw (
      read_back c.args.t.x.start (omega arith),
      read_back c.args.t.y.start (omega arith),
      read_back c.unwrap_or-m.result c.unwrap_or-m.type_inv,
      read_back c.unwrap_or-layers.result.start (omega arith),
      c.unwrap_or-m.ensures,
      c.unwrap_or-layers.ensures,
    )
