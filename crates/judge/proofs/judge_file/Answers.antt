-- `judge::judge_file` meets its contract.
use Prim.Native.Nat.{ℕ}
use mathlib.Core.Path.{◌≡◌, sym, ap, ◌∙◌}
use mathlib.Core.List.{List}
use mathlib.Core.Bool.{Bool, true, false, not}
use lib.Dec.{eqb}
use Rattle.format.proofs.Flags.{cond-true, not-is-true, not-is-false, eq_yes, eq_no}
use Rattle.format.specs.Names.{name_directory, name_metadata, name_attachment_directory}
use Rattle.format.specs.File.{file_part, update_pending, directory_position, metadata_position, attachment_directory_position}
use Rattle.format.specs.Segments.{walked_as}
use Rattle.format.specs.File.{names_none, names_none_but0, file_rows}
use Rattle.judge.proofs.judge_file.Goals as goal
use Rattle.judge.proofs.judge_file.Goals.{Then-file_part-ne0, Then-update_pending-ne0, Then-not-names, Then-names_none_but_0, Then-names_none_but_0-2}

-- a test of the position p that was read, which is q
module _ (bs : List ℕ) (p q : ℕ) (name : List ℕ) (r v : Bool) (e : p ≡ q) where
  names-is : r ≡ walked_as bs p name → not r ≡ v → names_none bs q name ≡ v
  unfolding names_none
  names-is f h = rw (← e, ← f) h

  names-but-0-is : r ≡ names_none_but0 bs p name → r ≡ v → names_none_but0 bs q name ≡ v
  names-but-0-is f h = rw (← e) (sym f ∙ h)

-- a test of the field a that was read as r
module _ (r a b : ℕ) (i : r ≡ a) where
  other-than : (r ≡ b → ⊥) → not (eqb a b) ≡ true
  other-than h = not-is-true _ (eq_no r a b i h)

  same-as : r ≡ b → not (eqb a b) ≡ false
  same-as h = not-is-false _ (eq_yes r a b i h)

-- ---- where a test is taken its row is given. Each of these rests on its own test alone.

taken-2 : (c : Then-file_part-ne0) → not (eqb (file_part c.args.walk.now.file.now) 0) ≡ true
taken-2 c = search other-than

taken-3 : (c : Then-update_pending-ne0) → not (eqb (update_pending c.args.walk.now.file.now) 0) ≡ true
taken-3 c = search other-than

taken-4 : (c : Then-not-names) → names_none c.args.walk.now.file.now (directory_position c.args.walk.now.file.now) name_directory ≡ true
unfolding name_directory
taken-4 c = search names-is

taken-5 : (c : Then-names_none_but_0) → names_none_but0 c.args.walk.now.file.now (metadata_position c.args.walk.now.file.now) name_metadata ≡ true
unfolding name_metadata
taken-5 c = search names-but-0-is

taken-6 : (c : Then-names_none_but_0-2) → names_none_but0 c.args.walk.now.file.now (attachment_directory_position c.args.walk.now.file.now) name_attachment_directory ≡ true
unfolding name_attachment_directory
taken-6 c = search names-but-0-is

-- ---- the answers: behind the tests before it, which were not taken, the row of the one that was

pub returns-then-major-ne1 : goal.returns-then-major-ne1
unfolding file_rows
returns-then-major-ne1 c = search (cond-true, other-than)

pub returns-then-file_part-ne0 : goal.returns-then-file_part-ne0
unfolding file_rows
returns-then-file_part-ne0 c =
    rw (
      taken-2 c,
      same-as _ _ _ c.major.ensures.0 c.if-major-ne1.false,
    )

pub returns-then-update_pending-ne0 : goal.returns-then-update_pending-ne0
unfolding file_rows
returns-then-update_pending-ne0 c =
    rw (
      taken-3 c,
      same-as _ _ _ c.file_part.ensures.0 c.if-file_part-ne0.false,
      same-as _ _ _ c.major.ensures.0 c.if-major-ne1.false,
    )

pub returns-then-not-names : goal.returns-then-not-names
unfolding file_rows
returns-then-not-names c =
    rw (
      taken-4 c,
      same-as _ _ _ c.update_pending.ensures.0 c.if-update_pending-ne0.false,
      same-as _ _ _ c.file_part.ensures.0 c.if-file_part-ne0.false,
      same-as _ _ _ c.major.ensures.0 c.if-major-ne1.false,
    )

pub returns-then-names_none_but_0 : goal.returns-then-names_none_but_0
unfolding file_rows name_directory
returns-then-names_none_but_0 c =
    rw (
      taken-5 c,
      names-is _ _ _ _ _ _ c.directory_position.ensures c.names.ensures (ap not c.if-not-names.false),
      same-as _ _ _ c.update_pending.ensures.0 c.if-update_pending-ne0.false,
      same-as _ _ _ c.file_part.ensures.0 c.if-file_part-ne0.false,
      same-as _ _ _ c.major.ensures.0 c.if-major-ne1.false,
    )

pub returns-then-names_none_but_0-2 : goal.returns-then-names_none_but_0-2
unfolding file_rows name_directory name_metadata
returns-then-names_none_but_0-2 c =
    rw (
      taken-6 c,
      names-but-0-is _ _ _ _ _ _ c.metadata_position.ensures c.names_none_but_0.ensures c.if-names_none_but_0.false,
      names-is _ _ _ _ _ _ c.directory_position.ensures c.names.ensures (ap not c.if-not-names.false),
      same-as _ _ _ c.update_pending.ensures.0 c.if-update_pending-ne0.false,
      same-as _ _ _ c.file_part.ensures.0 c.if-file_part-ne0.false,
      same-as _ _ _ c.major.ensures.0 c.if-major-ne1.false,
    )

pub returns : goal.returns
unfolding file_rows name_directory name_metadata name_attachment_directory
returns c =
    rw (
      names-but-0-is _ _ _ _ _ _ c.attachment_directory_position.ensures c.names_none_but_0-2.ensures c.if-names_none_but_0-2.false,
      names-but-0-is _ _ _ _ _ _ c.metadata_position.ensures c.names_none_but_0.ensures c.if-names_none_but_0.false,
      names-is _ _ _ _ _ _ c.directory_position.ensures c.names.ensures (ap not c.if-not-names.false),
      same-as _ _ _ c.update_pending.ensures.0 c.if-update_pending-ne0.false,
      same-as _ _ _ c.file_part.ensures.0 c.if-file_part-ne0.false,
      same-as _ _ _ c.major.ensures.0 c.if-major-ne1.false,
    )
