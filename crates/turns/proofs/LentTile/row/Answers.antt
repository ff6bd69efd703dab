-- `LentTile::row` meets its contract.
use Prim.Native.Nat.{◌*◌}
use native.Mathlib.Omega.{arith}
use native.Mathlib.Nat.{le_trans, le-mul_of_pos_right}
use Rattle.turns.proofs.Tile.{part_end}
use Rattle.turns.proofs.LentTile.row.Goals as goal

pub overflow_add-from : goal.overflow_add-from
overflow_add-from c =
    let s = c.args.self.now in
    let e = le_trans (le-mul_of_pos_right (s.place.height * s.place.width) c.requires.1) c.requires.0.pixels in
    omega (arith, part_end c.args.row s.place.height s.place.width c.requires.2, e)

pub overflow_mul-from : goal.overflow_mul-from
overflow_mul-from c = omega (arith, overflow_add-from c)
