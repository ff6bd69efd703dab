-- The refusals of a repack by numbers: the file's own first, then 36 and 25. Assumes nothing.
use Prim.Native.Nat.{ℕ, ◌+◌, ◌^◌, ◌<◌}
use mathlib.Core.Path.{◌≡◌, ◌∙◌}
use mathlib.Core.List.{List}
use mathlib.Core.Bool.{true, false}
use mathlib.Core.Logic.{◌⊎◌, ⊎_elim}
use native.Mathlib.Omega.{arith}
use lib.Dec.{eqb, ltb}
use lib.ListN.{length}
use borrow.Author.Tests.{lt-ltb, le-ltb}
use Rattle.format.specs.Bytes.{any_of}
use Rattle.format.specs.File.{attachment_directory_position}
use Rattle.format.specs.Attachments.{attachment_count}
use Rattle.format.specs.Rules.{checks, verdict}
use Rattle.format.specs.Checks.{Accepted}
use Rattle.format.proofs.Below.{by_bool}
use Rattle.format.proofs.Firsts.{first-pass, first-stop}
use Rattle.judge.proofs.AcceptedFile.{accepted-under}
use Rattle.repacked.specs.NewFile.{if_named, new_end, new_segments}
use Rattle.repacked.specs.Refusals.{too_large, size_verdict, repack_verdict}
use Rattle.repacked.specs.Claims.{new_count, Small, AllRefusals}
use Rattle.repacked.proofs.Lengths.{Kept, kept}
use Rattle.repacked.proofs.Places.{new-length, new-count, too-large-is}

-- ---- how many segments

-- there is no attachment without an attachment directory
with-directory : (bs : List ℕ)
    → if_named (attachment_directory_position bs) 1 0 + attachment_count bs ≡ if_named (attachment_directory_position bs) (1 + attachment_count bs) 0
unfolding attachment_count
with-directory bs = by_bool (eqb (attachment_directory_position bs) 0) (λ e. rw e) (λ e. rw e)

count-is : (bs : List ℕ) → length (new_segments bs) ≡ new_count bs
count-is bs = new-count bs ∙ omega (arith, with-directory bs)

-- ---- refusal 36

module _ (bs : List ℕ) (h : Kept bs) where
  large_is : (8192 < new_count bs) ⊎ (2 ^ 40 < new_end bs) → too_large bs ≡ true
  unfolding any_of
  large_is e =
      rw (too-large-is bs h, count-is bs)
      (⊎_elim
      (λ l. rw (lt-ltb 8192 (new_count bs) l))
      (λ l. by_bool (ltb 8192 (new_count bs)) (λ t. rw t) (λ t. rw (t, lt-ltb (2 ^ 40) (new_end bs) l)))
      e)

  small_is : Small bs → too_large bs ≡ false
  unfolding any_of
  small_is s = rw (too-large-is bs h, count-is bs, le-ltb 8192 (new_count bs) s.count, le-ltb (2 ^ 40) (new_end bs) s.size)

-- ---- the verdicts

pub all-refusals : AllRefusals
unfolding verdict size_verdict repack_verdict
all-refusals sc out =
    let bs = sc.file in
    let all : verdict sc ≡ Accepted → Kept bs = λ a. kept bs (accepted-under bs sc.release a) in
    record {
      own = λ f p e. (first-stop (checks sc) _ _ e, first-stop (checks sc) _ _ e);
      large = λ a l.
          let big = large_is bs (all a) l in
          (first-pass (checks sc) _ a ∙ rw big, first-pass (checks sc) _ a ∙ rw big);
      small = λ a s. first-pass (checks sc) _ a ∙ rw (small_is bs (all a) s);
      short = λ a s l. first-pass (checks sc) _ a ∙ rw (small_is bs (all a) s, new-length bs (all a), lt-ltb out (new_end bs) l);
      fits = λ a s l. first-pass (checks sc) _ a ∙ rw (small_is bs (all a) s, new-length bs (all a), le-ltb out (new_end bs) l);
      length_is = λ a. new-length bs (all a);
      count-is = count-is bs;
    }
