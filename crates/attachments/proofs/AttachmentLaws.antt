-- What the tests of the metadata segment, the attachment directory and an attachment tell, and rows that are only there where a position is not 0.
-- Assumes nothing.
use Prim.Native.Nat.{ℕ, ◌+◌, ◌*◌, ◌≤◌, ◌<◌}
use mathlib.Core.Path.{◌≡◌, sym, ◌∙◌}
use mathlib.Core.List.{List, []}
use mathlib.Core.Bool.{Bool, true, false, cond, not}
use native.Mathlib.Omega.{arith}
use lib.ListN.{length}
use borrow.Author.Tests.{lt-ltb, ltb-false}
use Rattle.std.specs.Prelude.{Err}
use Rattle.format.specs.Checks.{Verdict, Accepted, Check, first, rows_below}
use Rattle.format.specs.Segments.{room, RoomIn, walked_as}
use Rattle.format.specs.Attachments.{metadata_bad, xml_size, xml_attachment_size, attachment_directory_bad, attachment_entry_count, attachment_entry}
use Rattle.format.specs.Attachments.{attachment_bad, attachment_entry_rows}
use Rattle.format.specs.declared.Refusal.{Refusal}
use Rattle.format.proofs.Below.{none}
use Rattle.format.proofs.Firsts.{rows-zero, rows_more, rows-stop}
use Rattle.format.proofs.SegmentLaws.{walked-room}
use Rattle.format.proofs.Flags.{any_here, any-later, is-true-not}

-- ---- rows behind a test that says that there is nothing to judge

module _ (t : Bool) (rows : List Check) where
  pub absent : t ≡ true → Accepted ≡ first (cond t [] rows)
  absent e = rw e

  pub present : (v : Verdict) → t ≡ false → v ≡ first rows → v ≡ first (cond t [] rows)
  present v e h = rw e h

-- ---- a position that is not 0 is that of a segment in the file

pub named-room : (bs : List ℕ) (r p : ℕ) → r ≡ p → ((p ≡ 0 → ⊥) → RoomIn bs p) → (r ≡ 0 → ⊥) → RoomIn bs r
named-room bs r p e h n = rw e (h (λ z. n (e ∙ z)))

-- so is one of which r says that it names a walked segment
pub walked-in : (bs : List ℕ) (q : ℕ) (name : List ℕ) (r : Bool) → r ≡ walked_as bs q name → not r ≡ false → RoomIn bs q
walked-in bs q name r e h = walked-room bs q name (is-true-not r _ e h)

-- ---- refusal 10

-- a room under the fixed part is under the fixed part with both sizes
pub metadata-short : (bs : List ℕ) (m : ℕ) → room bs m < 256 → true ≡ metadata_bad bs m
unfolding metadata_bad
metadata-short bs m h = any-later _ _ (any-later _ _ (any_here _ _ (lt-ltb (room bs m) (256 + xml_size bs m + xml_attachment_size bs m) (omega arith))))

-- not given to a directory whose room lies in the file: its entries lie there
pub entries-within : (bs : List ℕ) (t : ℕ) → RoomIn bs t → attachment_directory_bad bs t ≡ false → attachment_entry t (attachment_entry_count bs t) ≤ length bs
unfolding attachment_directory_bad attachment_entry
entries-within bs t h e = let f : 256 + 128 * attachment_entry_count bs t ≤ room bs t = ltb-false _ _ (none _ e 3) in omega arith

-- entry k of n
pub entry-within : (t n k e l : ℕ) → attachment_entry t n ≤ l → k < n → e ≡ attachment_entry t k → e + 128 ≤ l
unfolding attachment_entry
entry-within t n k e l h i j = omega arith

-- ---- the loop over the n entries of the directory at t: those below k are accepted

pub record Entries (bs : List ℕ) (t n k : ℕ) : Type 0 where
  pub count : k ≤ n
  pub accepted : first (rows_below k (λ i. attachment_entry_rows bs (attachment_entry t i))) ≡ Accepted

pub entries-start : (bs : List ℕ) (t n : ℕ) → Entries bs t n 0
entries-start bs t n = record { count = omega arith; accepted = rows-zero _ }

module _ (bs : List ℕ) (t n k : ℕ) (i : Entries bs t n k) where
  -- v was answered for the entry at e, which is entry k
  module _ (e : ℕ) (j : e ≡ attachment_entry t k) (v : Verdict) (f : v ≡ first (attachment_entry_rows bs e)) (l : k < n) where
    pub entries_next : v ≡ Accepted → Entries bs t n (k + 1)
    entries_next a = record { count = omega arith; accepted = rows_more k _ i.accepted (rw (← j) (sym f ∙ a)) }

    pub entries-stop : (r : Refusal) → v ≡ Err r → Err r ≡ first (rows_below n (λ i. attachment_entry_rows bs (attachment_entry t i)))
    entries-stop r a = sym (rows-stop n k _ r l i.accepted (rw (← j) (sym f ∙ a)))

  pub entries-end : n ≤ k → Accepted ≡ first (rows_below n (λ i. attachment_entry_rows bs (attachment_entry t i)))
  entries-end h = let e : k ≡ n = omega (arith, i.count) in sym (rw e at i.accepted)

-- ---- refusal 15 is not given: the fixed part lies in the room

pub attachment-fits : (ds : List ℕ) (e : ℕ) (bs : List ℕ) (q : ℕ) (r : Bool) → r ≡ attachment_bad ds e bs q → r ≡ false → 256 ≤ room bs q
unfolding attachment_bad
attachment-fits ds e bs q r i h = ltb-false _ _ (none _ (sym i ∙ h) 0)
