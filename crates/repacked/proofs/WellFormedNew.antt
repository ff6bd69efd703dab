-- The new file of a scan that a repack does not refuse is well formed, so it is accepted, and says the same. Assumes nothing.
use Prim.Native.Nat.{ℕ, ◌^◌, ◌≤◌, ◌<◌}
use mathlib.Core.Path.{◌≡◌, refl, sym, ◌∙◌}
use mathlib.Core.List.{List}
use mathlib.Core.Bool.{false}
use native.Mathlib.Omega.{arith}
use lib.ListN.{length}
use borrow.Author.Tests.{le-ltb}
use Rattle.format.specs.Names.{name_directory}
use Rattle.format.specs.Scan.{Scan}
use Rattle.format.specs.Segments.{next_segment, length_bad, room, walked}
use Rattle.format.specs.File.{major, directory_position}
use Rattle.format.specs.Directory.{entry_count, tile_count, directory_bad}
use Rattle.format.specs.Rules.{verdict}
use Rattle.format.specs.WellFormed.{Chain, Names, WellFormed}
use Rattle.format.specs.Checks.{Accepted}
use Rattle.format.proofs.Below.{none}
use Rattle.format.proofs.Flags.{any-skip, any_none}
use Rattle.format.proofs.SegmentLaws.{walked-places}
use Rattle.format.proofs.Walk.{segments-chain}
use Rattle.format.proofs.Acceptance.{accepted-iff}
use Rattle.equivalent.specs.Same.{SameScans}
use Rattle.equivalent.proofs.Reading.{u32-inside}
use Rattle.judge.proofs.AcceptedFile.{accepted-under}
use Rattle.pack.proofs.Tiling.{Tiles}
use Rattle.repacked.specs.NewFile.{directory_size, new_directory, directory_segment, new_segments, repacked, repacked_scan}
use Rattle.repacked.specs.Refusals.{size_verdict}
use Rattle.repacked.specs.Claims.{Positions}
use Rattle.repacked.proofs.Lengths.{Kept, kept}
use Rattle.repacked.proofs.Places.{directory-placed}
use Rattle.repacked.proofs.Listed.{new-pass, placed-names, size-parts, scan-tiles}
use Rattle.repacked.proofs.Reading.{tiles-short, file-read, tiles-read}
use Rattle.repacked.proofs.Sameness as Sameness
use Rattle.repacked.proofs.NewEntries.{directory-room, entry-right}
use Rattle.repacked.proofs.NewAnnexes.{metadata-too, attachments-too}

module _ (bs : List ℕ) (h : Kept bs) (t : Tiles (new_segments bs)) where
  abbrev nf : List ℕ
  nf = repacked bs

  short : length nf ≤ 2 ^ 40
  short = tiles-short bs t

  -- ---- its segments

  new-chain : (length_bad nf ≡ false) × Chain (next_segment nf) 0 (length nf) (walked nf)
  new-chain = segments-chain nf (new-pass bs t)

  -- ---- the file segment and the directory

  new-major : major nf ≡ major bs
  unfolding major
  new-major = sym (u32-inside 8 bs 32 nf 32 (file-read bs h short).version 0 32 32 refl refl (omega arith))

  directory-names : Names nf (walked nf) new_directory name_directory
  unfolding directory_segment
  directory-names = placed-names bs t (directory_segment bs) new_directory (directory-placed bs h)

  directory-right : directory_bad bs (directory_position bs) ≡ false → directory_bad nf (directory_position nf) ≡ false
  unfolding directory_bad directory_size
  directory-right c =
      let at = (file-read bs h short).directory in
      let fixed = le-ltb (room nf (directory_position nf)) 128 (rw at (omega (arith, directory-room bs h t))) in
      let count : entry_count nf (directory_position nf) ≡ entry_count bs (directory_position bs) = unfold tile_count in tiles-read bs h short in
      rw count (sym (any-skip false _ _ fixed (any-skip false _ _ (none _ c 1) (any-skip false _ _ (none _ c 2) any_none))))

-- ---- all of it

pub well-formed-new : (sc : Scan) → Kept sc.file → Tiles (new_segments sc.file) → WellFormed sc → WellFormed (repacked_scan sc)
well-formed-new sc h t w =
    let bs = sc.file in
    let f = file-read bs h (short bs h t) in
    record {
      length-right = (new-chain bs h t).0;
      segments = walked (repacked bs);
      tile = (new-chain bs h t).1;
      few = (walked-places (repacked bs)).few;
      segment = (walked-places (repacked bs)).segment;
      major_right = new-major bs h t ∙ w.major_right;
      part = f.part;
      settled = f.settled;
      names_directory = rw f.directory (directory-names bs h t);
      directory = directory-right bs h t w.directory;
      entries = λ k l. let m : k < tile_count bs = omega (arith, tiles-read bs h (short bs h t)) in
          entry-right sc h t w.segments (directory_position bs) k m (w.entries k m);
      metadata = metadata-too bs h t w.segments w.metadata;
      attachments = attachments-too bs h t w.segments w.attachments;
    }

module _ (sc : Scan) (e : size_verdict sc ≡ Accepted) where
  old-accepted : verdict sc ≡ Accepted
  old-accepted = (size-parts sc e).0

  pub all-kept : Kept sc.file
  all-kept = kept sc.file (accepted-under sc.file sc.release old-accepted)

  -- under the release that the old one is accepted by
  pub new-accepted : verdict (repacked_scan sc) ≡ Accepted
  new-accepted = (accepted-iff (repacked_scan sc)).1 (well-formed-new sc all-kept (scan-tiles sc e) ((accepted-iff sc).0 old-accepted))

  pub new-same : SameScans sc (repacked_scan sc)
  new-same = Sameness.same-scans sc all-kept (short sc.file all-kept (scan-tiles sc e)) old-accepted new-accepted

  pub new-positions : Positions sc.file
  new-positions = Sameness.positions sc all-kept (short sc.file all-kept (scan-tiles sc e))
