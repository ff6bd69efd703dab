use Prim.Native.Nat.{◌-◌}
use Rattle.turns.proofs.TileRows.{Rows}
use Rattle.turns.proofs.paint_tile.Given as goal

abbrev pub invariant-loop-y : goal.invariant-loop-y
invariant-loop-y l =
    Rows l.initial.target l.initial.map l.w l.tile l.turn l.n (l.c.left - l.a.left) (l.c.left - l.w.left) (l.c.bottom - l.w.top) l.y l.target l.map l.given
