-- `subblocks::sub_block_bad` meets its contract.
use Prim.Native.Nat.{◌<◌}
use native.Mathlib.Omega.{arith}
use borrow.Author.Rules.{rules}
use Rattle.format.proofs.Flags.{flags}
use Rattle.segments.proofs.Leaves.{lt_both, le-both}
use Rattle.format.specs.SubBlock.{sub_block_bad}
use Rattle.subblocks.proofs.PartLaws.{fixed-within}
use Rattle.subblocks.proofs.sub_block_bad.Goals as goal

pub room_at-requires : goal.room_at-requires
unfolding sub_block_bad
room_at-requires c = search rules

pub fixed_part-requires : goal.fixed_part-requires
unfolding sub_block_bad
fixed_part-requires c = search rules

pub returns-then-room_at-fixed_part : goal.returns-then-room_at-fixed_part
unfolding sub_block_bad
returns-then-room_at-fixed_part c = let h : c.room_at.result < c.fixed_part.result = omega arith in search (flags, lt_both) depth 8

pub copy_bad-requires : goal.copy_bad-requires
unfolding sub_block_bad
copy_bad-requires c = search fixed-within

pub returns-then-copy_bad : goal.returns-then-copy_bad
unfolding sub_block_bad
returns-then-copy_bad c = search (flags, le-both) depth 8

pub returns : goal.returns
unfolding sub_block_bad
returns c = search (flags, le-both) depth 8
