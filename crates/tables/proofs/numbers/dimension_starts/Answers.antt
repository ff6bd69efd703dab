-- `tables::numbers::dimension_starts` meets its contract.
use native.Mathlib.Omega.{arith}
use Rattle.entries.proofs.ReadBack.{read_back}
use Rattle.tables.specs.Numbers.{dimension_starts}
use Rattle.tables.proofs.numbers.dimension_starts.Goals as goal

pub returns : goal.returns
unfolding dimension_starts
returns c = rw (read_back c.args.d.start (omega arith))
