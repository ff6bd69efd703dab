-- `turns::paint_tile` meets its contract.
use native.Mathlib.Omega.{arith}
use borrow.Author.Rules.{rules}
use Rattle.paint.proofs.Spans.{lent-bytes}
use Rattle.turns.proofs.TileRows.{rows_none, rows_all, rows-beside, rows-off, rows_more, rows-sum, row_first, row_room}
use Rattle.turns.proofs.paint_tile.Goals as goal
use Rattle.turns.proofs.paint_tile.Goals.{then-c-via-then-c, then-c-via-else-c+then-c-2}

pub returns-then-c : goal.returns-then-c
returns-then-c c =
    elim c.then-c.branch [ then-c-via-then-c w ↦ search (rows-beside, lent-bytes) | then-c-via-else-c+then-c-2 w ↦ search (rows-off, lent-bytes) ]

pub loop-y-init : goal.loop-y-init
loop-y-init c = rows_none _ _ c.requires (search rules) c.meeting-c.ensures (search rules) c.if-c.false c.if-c-2.false

pub overflow_add-first : goal.overflow_add-first
overflow_add-first c = row_first c.loop-y.invariant c.loop-y-test.true

pub overflow_mul-first : goal.overflow_mul-first
overflow_mul-first c = omega (arith, row_first c.loop-y.invariant c.loop-y-test.true)

pub paint_stretch-given-requires : goal.paint_stretch-given-requires
paint_stretch-given-requires c = row_room c.loop-y.invariant c.loop-y-test.true c.row-row.ensures

pub overflow_add-given : goal.overflow_add-given
overflow_add-given c = rows-sum c.loop-y.invariant c.loop-y-test.true c.paint_stretch-given.ensures

pub loop-y-preserved : goal.loop-y-preserved
loop-y-preserved c = rows_more c.loop-y.invariant c.loop-y-test.true c.row-row.ensures c.paint_stretch-given.ensures

pub returns : goal.returns
returns c = search rows_all
