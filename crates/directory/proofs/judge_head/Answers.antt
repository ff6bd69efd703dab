-- `directory::judge_head` meets its contract.
use native.Mathlib.Omega.{arith}
use borrow.Author.Rules.{rules}
use Rattle.format.proofs.Flags.{cond-true, is_true, is_false, lt_yes, lt_no}
use Rattle.segments.proofs.Leaves.{lt_both, le-both}
use Rattle.format.specs.Directory.{room_end, head_rows}
use Rattle.directory.proofs.judge_head.Goals as goal

pub room_end-end-requires : goal.room_end-end-requires
unfolding room_end
room_end-end-requires c = search rules

pub overflow_add-e : goal.overflow_add-e
unfolding room_end
overflow_add-e c = omega arith

pub returns-then-end-e : goal.returns-then-end-e
unfolding head_rows
returns-then-end-e c = search (cond-true, lt_yes)

pub head_bad-requires : goal.head_bad-requires
unfolding room_end
head_bad-requires c = omega arith

pub returns-then-head_bad : goal.returns-then-head_bad
unfolding head_rows
returns-then-head_bad c =
    rw (
      is_true _ _ c.head_bad.ensures c.if-head_bad.true,
      lt_no _ _ _ c.room_end-end.ensures c.if-end-e.false,
    )

pub next_entry-requires : goal.next_entry-requires
unfolding room_end
next_entry-requires c = omega arith

pub returns-then-end-next_entry : goal.returns-then-end-next_entry
unfolding head_rows
returns-then-end-next_entry c =
    rw (
      lt_both _ _ _ _ c.room_end-end.ensures c.next_entry.ensures c.if-end-next_entry.true,
      is_false _ _ c.head_bad.ensures c.if-head_bad.false,
      lt_no _ _ _ c.room_end-end.ensures c.if-end-e.false,
    )

pub returns : goal.returns
unfolding head_rows
returns c =
    rw (
      le-both _ _ _ _ c.room_end-end.ensures c.next_entry.ensures c.if-end-next_entry.false,
      is_false _ _ c.head_bad.ensures c.if-head_bad.false,
      lt_no _ _ _ c.room_end-end.ensures c.if-end-e.false,
    )
