-- What the two releases have in common and where they differ. Assumes nothing.
use Prim.Native.Nat.{ℕ}
use mathlib.Core.Path.{◌≡◌, refl, sym, ◌∙◌}
use mathlib.Core.Logic.{◌↔◌}
use mathlib.Core.List.{List, ◌++◌}
use native.Mathlib.Omega.{arith}
use Rattle.format.specs.Checks.{Check, first, and_then}
use Rattle.format.specs.Scan.{scan_of}
use Rattle.format.specs.Masks.{has_chunks}
use Rattle.format.specs.Rules.{checks, verdict, AcceptedFile, tile_verdict, attachment_verdict}
use Rattle.format.specs.Records.{mask_of, tile_at, tile_record, dimension_verdict, dimension_record, attachment_record}
use Rattle.format.specs.Records.{tile_pixels, tile_metadata, tile_attachment, attachment_data, common_xml, common_attachment}
use Rattle.format.specs.Releases.{NoChunkRefused, without_chunks, Judging, NeverChunkRefused, SameRecords, SameViews, AllReleases}
use Rattle.format.specs.declared.Release.{Release}
use Rattle.format.specs.declared.Release.TheVariants.{R102, R12}
use Rattle.std.specs.Prelude.{Ok, Err}
use Rattle.format.specs.Checks.{Verdict, Accepted}
use Rattle.format.proofs.Firsts.{first-append}
use Rattle.format.proofs.ReleaseRows.{Chunkless, without-both, without-checks, without-never, without-first}

accepted-none : {v : Verdict} → v ≡ Accepted → NoChunkRefused v
accepted-none e = rw e (record { not_17 = λ z. absurd (omega arith); not_18 = λ z. absurd (omega arith) })

module _ (bs : List ℕ) where
  -- ---- verdicts

  -- under 1.02, with rows behind the file's own that are no chunk's
  pub older-never : (rows : List Check) → Chunkless rows → NoChunkRefused (first (checks (scan_of bs R102) ++ rows))
  older-never rows e = rw (← without-both (checks (scan_of bs R12)) rows (without-checks bs) e) (without-never (checks (scan_of bs R12) ++ rows))

  alike : (r : Release) → NoChunkRefused (verdict (scan_of bs R12)) → verdict (scan_of bs r) ≡ verdict (scan_of bs R12)
  unfolding verdict
  alike R102 n = rw (← without-checks bs) (without-first (checks (scan_of bs R12)) n)
  alike R12 n = refl

  never-further : (rows : List Check) → NoChunkRefused (first rows) → NoChunkRefused (first (checks (scan_of bs R102) ++ rows))
  never-further rows n = rw (first-append (checks (scan_of bs R102)) rows, ← without-checks bs) (go (first (without_chunks (checks (scan_of bs R12)))) (without-never _))
    where
      go : (v : Verdict) → NoChunkRefused v → NoChunkRefused (and_then v (first rows))
      go (Ok _) a = n
      go (Err e) a = a

  pub never-chunks : NeverChunkRefused bs
  unfolding verdict tile_verdict dimension_verdict attachment_verdict without_chunks
  never-chunks =
      record {
        file = rw (← without-checks bs) (without-never (checks (scan_of bs R12)));
        further = never-further;
        tile = λ n. older-never _ refl;
        dimension = λ n k. older-never _ refl;
        attachment = λ n. older-never _ refl;
      }

  module _ (r : Release) where
    further : NoChunkRefused (verdict (scan_of bs R12)) → (rows : List Check)
        → first (checks (scan_of bs r) ++ rows) ≡ first (checks (scan_of bs R12) ++ rows)
    unfolding verdict
    further n rows = rw (first-append (checks (scan_of bs r)) rows, first-append (checks (scan_of bs R12)) rows, alike r n)

    judging : Judging bs r
    judging = record { alike = alike r; further = further; accepts = λ e. alike r (accepted-none e) ∙ e; rows = sym (without-checks bs) }

    -- ---- what is handed out

    same-records : SameRecords bs r
    unfolding tile_record tile_at mask_of has_chunks dimension_record attachment_record
    same-records = record { tile = λ n. refl; dimension = λ n k. refl; attachment = λ n. refl }

    module _ (n : NoChunkRefused (verdict (scan_of bs R12))) where
      tile-verdict : (k : ℕ) → tile_verdict (scan_of bs r) k ≡ tile_verdict (scan_of bs R12) k
      unfolding tile_verdict
      tile-verdict k = further n _

      dimension-verdict : (k i : ℕ) → dimension_verdict (scan_of bs r) k i ≡ dimension_verdict (scan_of bs R12) k i
      unfolding dimension_verdict
      dimension-verdict k i = further n _

      attachment-verdict : (k : ℕ) → attachment_verdict (scan_of bs r) k ≡ attachment_verdict (scan_of bs R12) k
      unfolding attachment_verdict
      attachment-verdict k = further n _

      same-views : SameViews bs r
      unfolding tile_pixels tile_metadata tile_attachment attachment_data common_xml common_attachment
      same-views =
          record {
            tile-verdict = tile-verdict;
            dimension-verdict = dimension-verdict;
            attachment-verdict = attachment-verdict;
            pixels = λ k. rw (tile-verdict k);
            metadata = λ k. rw (tile-verdict k);
            tile_attachment = λ k. rw (tile-verdict k);
            attachment_data = λ k. rw (attachment-verdict k);
            xml = rw (alike r n);
            xml_attachment = rw (alike r n);
          }

-- accepted under some release is accepted under 1.02
pub accepted-older : (bs : List ℕ) → AcceptedFile bs ↔ (verdict (scan_of bs R102) ≡ Accepted)
accepted-older bs = (λ a. go a.release a.accepted, λ e. record { release = R102; accepted = e })
  where
    go : (r : Release) → verdict (scan_of bs r) ≡ Accepted → verdict (scan_of bs R102) ≡ Accepted
    go R102 e = e
    go R12 e = (judging bs R102).accepts e

pub all-releases : AllReleases
all-releases bs r = record { judging = judging bs r; never = never-chunks bs; records = same-records bs r; views = same-views bs r }
