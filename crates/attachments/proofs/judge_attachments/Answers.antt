-- `attachments::judge_attachments` meets its contract.
use Prim.Native.Nat.{◌≤◌}
use mathlib.Core.Path.{◌≡◌}
use Prim.Native.Nat.{ℕ}
use mathlib.Core.List.{List}
use mathlib.Core.Bool.{Bool, false}
use native.Mathlib.Omega.{arith}
use lib.ListN.{length}
use borrow.Author.Tests.{eq-eqb, ne_eqb}
use Rattle.format.specs.Segments.{RoomIn}
use Rattle.format.specs.Attachments.{attachment_entry_count, attachment_entry, attachment_directory_bad, attachment_directory_rows, attachments_rows}
use Rattle.format.proofs.Flags.{is_true, is_false}
use Rattle.attachments.proofs.AttachmentLaws.{absent, present, named-room, entries-within}
use borrow.Author.Rules.{rules}
use Rattle.attachments.proofs.judge_attachments.Goals as goal

-- the position of the directory is read as t, which is not 0: its room lies in the file
module _ (bs : List ℕ) (t p : ℕ) (i : t ≡ p) (h : (p ≡ 0 → ⊥) → RoomIn bs p) (n : t ≡ 0 → ⊥) where
  -- so do the entries of a directory that is not refused
  within : (r : Bool) → r ≡ attachment_directory_bad bs t → r ≡ false → attachment_entry t (attachment_entry_count bs t) ≤ length bs
  within r f e = entries-within _ _ (named-room bs t p i h n) (is_false _ _ f e)

pub attachment_directory_position-t-requires : goal.attachment_directory_position-t-requires
unfolding attachment_entry
attachment_directory_position-t-requires c = search rules

pub returns-then-t-eq0 : goal.returns-then-t-eq0
unfolding attachments_rows attachment_directory_rows
returns-then-t-eq0 c = rw (← c.attachment_directory_position-t.ensures) (absent _ _ (eq-eqb _ _ c.if-t-eq0.true))

pub attachment_directory_bad-requires : goal.attachment_directory_bad-requires
unfolding attachment_entry
attachment_directory_bad-requires c = named-room _ _ _ c.attachment_directory_position-t.ensures c.requires.room_in c.if-t-eq0.false

pub returns-then-attachment_directory_bad : goal.returns-then-attachment_directory_bad
unfolding attachments_rows attachment_directory_rows
returns-then-attachment_directory_bad c = rw (← c.attachment_directory_position-t.ensures) (present _ _ _ (ne_eqb _ _ c.if-t-eq0.false) (rw (is_true _ _ c.attachment_directory_bad.ensures c.if-attachment_directory_bad.true)))

pub attachment_entry_count-requires : goal.attachment_entry_count-requires
unfolding attachment_entry
attachment_entry_count-requires c = omega (arith, within _ _ _ c.attachment_directory_position-t.ensures c.requires.room_in c.if-t-eq0.false _ c.attachment_directory_bad.ensures c.if-attachment_directory_bad.false)

pub judge_attachment_entries-requires : goal.judge_attachment_entries-requires
unfolding attachment_entry
judge_attachment_entries-requires c = rw c.attachment_entry_count.ensures.0 (within _ _ _ c.attachment_directory_position-t.ensures c.requires.room_in c.if-t-eq0.false _ c.attachment_directory_bad.ensures c.if-attachment_directory_bad.false)

pub returns : goal.returns
unfolding attachments_rows attachment_directory_rows
returns c =
    let k = c in
    rw (← k.attachment_directory_position-t.ensures)
    (present _ _ _ (ne_eqb _ _ k.if-t-eq0.false)
    (rw (is_false _ _ c.attachment_directory_bad.ensures c.if-attachment_directory_bad.false, ← c.attachment_entry_count.ensures.0)
    c.judge_attachment_entries.ensures))
