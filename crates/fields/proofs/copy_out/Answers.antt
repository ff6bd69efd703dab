-- `fields::copy_out` meets its contract.
use native.Mathlib.Nat.{add-sub_cancel_left}
use Rattle.format.specs.Bytes.{part_of}
use Rattle.fields.proofs.copy_out.Goals as goal

pub returns : goal.returns
unfolding part_of
returns c = rw (c.copy_from_slice.ensures.after, add-sub_cancel_left)
