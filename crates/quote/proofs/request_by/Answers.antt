-- `quote::request_by` meets its contract.
use mir.Facts.{to_z-of_z}
use mir.Syntax.{w32}
use Rattle.quote.proofs.request_by.Goals as goal

pub returns : goal.returns
returns c =
    let f = c.args.f in
    let z = c.struct_told-1.given in
    let left = to_z-of_z {w = w32} {z = f.left} (record { sfits = z.1.0.1 }) in
    let top = to_z-of_z {w = w32} {z = f.top} (record { sfits = z.1.1.0.1 }) in
    simp (left, top, c.masks_meant-masks.ensures)
