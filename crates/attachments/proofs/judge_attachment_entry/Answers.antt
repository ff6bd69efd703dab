-- `attachments::judge_attachment_entry` meets its contract.
use Prim.Native.Nat.{ℕ}
use mathlib.Core.Path.{◌≡◌, sym, ap, ◌∙◌}
use mathlib.Core.List.{List}
use mathlib.Core.Bool.{Bool, true, false, not}
use lib.Dec.{eqb}
use native.Mathlib.Omega.{arith}
use Rattle.format.specs.Segments.{walked_as}
use Rattle.format.specs.Names.{name_attachment}
use Rattle.format.specs.Attachments.{attachment_bad, attachment_data_bad, attachment_entry_rows}
use Rattle.format.specs.Checks.{Refused}
use Rattle.format.specs.declared.Fault.{Fault}
use Rattle.format.proofs.Flags.{cond-true, is_true, is_false, not-is-true, not-is-false, eq_yes, eq_no}
use Rattle.attachments.proofs.AttachmentLaws.{walked-in, attachment-fits}
use Rattle.attachments.proofs.judge_attachment_entry.Goals as goal

-- a test of the field a that was read as r
module _ (r a : ℕ) (i : r ≡ a) where
  other-than-0 : (r ≡ 0 → ⊥) → not (eqb a 0) ≡ true
  other-than-0 h = not-is-true _ (eq_no r a 0 i h)

  is-0 : r ≡ 0 → not (eqb a 0) ≡ false
  is-0 h = not-is-false _ (eq_yes r a 0 i h)

-- of the position p that was read, which is q, by the answer r
module _ (bs : List ℕ) (p q : ℕ) (i : p ≡ q) (r v : Bool) where
  walked-is : (name : List ℕ) → r ≡ walked_as bs p name → r ≡ v → not (walked_as bs q name) ≡ not v
  walked-is name f h = rw (← i, ← f, h)

  copy_is : (e : ℕ) → r ≡ attachment_bad bs e bs p → r ≡ v → attachment_bad bs e bs q ≡ v
  copy_is e f h = rw (← i) (sym f ∙ h)

  data_is : r ≡ attachment_data_bad bs p → r ≡ v → attachment_data_bad bs q ≡ v
  data_is f h = rw (← i) (sym f ∙ h)

-- a refusal at the position that was read
refused-at : (m : Fault) (p q : ℕ) → p ≡ q → Refused m p ≡ Refused m q
refused-at m p q i = ap (Refused m) i

pub returns-then-attachment_entry_bad : goal.returns-then-attachment_entry_bad
unfolding attachment_entry_rows
returns-then-attachment_entry_bad c = search (cond-true, is_true)

pub attachment_bad-requires : goal.attachment_bad-requires
attachment_bad-requires c = (omega arith, search walked-in)

pub attachment_data_bad-requires : goal.attachment_data_bad-requires
attachment_data_bad-requires c = search (walked-in, attachment-fits)

pub returns-then-attachment_part-ne0 : goal.returns-then-attachment_part-ne0
unfolding attachment_entry_rows
returns-then-attachment_part-ne0 c =
    rw (
      other-than-0 _ _ c.attachment_part.ensures.0 c.if-attachment_part-ne0.true,
      is_false _ _ c.attachment_entry_bad.ensures c.if-attachment_entry_bad.false,
    )

pub returns-then-not-names : goal.returns-then-not-names
unfolding attachment_entry_rows name_attachment
returns-then-not-names c =
    rw (
      walked-is _ _ _ c.attachment_position-q.ensures _ _ _ c.names.ensures c.if-not-names.true,
      is-0 _ _ c.attachment_part.ensures.0 c.if-attachment_part-ne0.false,
      is_false _ _ c.attachment_entry_bad.ensures c.if-attachment_entry_bad.false,
    )

pub returns-then-attachment_bad : goal.returns-then-attachment_bad
unfolding attachment_entry_rows name_attachment
returns-then-attachment_bad c =
    rw (
      copy_is _ _ _ c.attachment_position-q.ensures _ _ _ c.attachment_bad.ensures c.if-attachment_bad.true,
      walked-is _ _ _ c.attachment_position-q.ensures _ _ _ c.names.ensures c.if-not-names.false,
      is-0 _ _ c.attachment_part.ensures.0 c.if-attachment_part-ne0.false,
      is_false _ _ c.attachment_entry_bad.ensures c.if-attachment_entry_bad.false,
    ) (search refused-at)

pub returns-then-attachment_data_bad : goal.returns-then-attachment_data_bad
unfolding attachment_entry_rows name_attachment
returns-then-attachment_data_bad c =
    rw (
      data_is _ _ _ c.attachment_position-q.ensures _ _ c.attachment_data_bad.ensures c.if-attachment_data_bad.true,
      copy_is _ _ _ c.attachment_position-q.ensures _ _ _ c.attachment_bad.ensures c.if-attachment_bad.false,
      walked-is _ _ _ c.attachment_position-q.ensures _ _ _ c.names.ensures c.if-not-names.false,
      is-0 _ _ c.attachment_part.ensures.0 c.if-attachment_part-ne0.false,
      is_false _ _ c.attachment_entry_bad.ensures c.if-attachment_entry_bad.false,
    ) (search refused-at)

pub returns : goal.returns
unfolding attachment_entry_rows name_attachment
returns c =
    rw (
      data_is _ _ _ c.attachment_position-q.ensures _ _ c.attachment_data_bad.ensures c.if-attachment_data_bad.false,
      copy_is _ _ _ c.attachment_position-q.ensures _ _ _ c.attachment_bad.ensures c.if-attachment_bad.false,
      walked-is _ _ _ c.attachment_position-q.ensures _ _ _ c.names.ensures c.if-not-names.false,
      is-0 _ _ c.attachment_part.ensures.0 c.if-attachment_part-ne0.false,
      is_false _ _ c.attachment_entry_bad.ensures c.if-attachment_entry_bad.false,
    )
