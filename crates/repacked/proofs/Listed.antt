-- The segments of the new file are exactly those listed, each written where it stands. Assumes nothing.
use Prim.Native.Nat.{ℕ, ◌^◌, ◌<◌}
use mathlib.Core.Path.{◌≡◌, refl}
use mathlib.Core.List.{List, [], ◌∷◌, ◌++◌}
use mathlib.Core.Bool.{true, false}
use native.Mathlib.Omega.{arith}
use lib.ListN.{length}
use lib.Dec.{eqb}
use borrow.Author.Tests.{ltb-false}
use Rattle.format.specs.Bytes.{any_of, all_below, same_at}
use Rattle.format.specs.Names.{name_file, name_directory, name_sub_block, name_metadata, name_attachment, name_attachment_directory}
use Rattle.format.specs.Scan.{Scan}
use Rattle.format.specs.Segments.{room, name_bad, walked, segments_rows}
use Rattle.format.specs.File.{metadata_position, attachment_directory_position}
use Rattle.format.specs.Directory.{tile_count}
use Rattle.format.specs.Attachments.{attachment_count}
use Rattle.format.specs.Checks.{first}
use Rattle.format.specs.Rules.{checks, verdict, AcceptedFile}
use Rattle.format.specs.WellFormed.{Among, Names}
use Rattle.format.specs.Checks.{Accepted}
use Rattle.format.proofs.Below.{by_bool, none}
use Rattle.format.proofs.Firsts.{first-both, first-passed}
use Rattle.pack.specs.Pack.{Segment, packed, each}
use Rattle.pack.proofs.Places.{AllOf, all_append, all-each, segment-placed}
use Rattle.pack.proofs.Tiling.{First, Later, Ordered, Tiles, all_named, allocated-placed, used-placed, segments-pass, walked-packed}
use Rattle.pack.proofs.Tiling.{among-all, room-there, name-there}
use Rattle.repacked.specs.NewFile.{if_named}
use Rattle.repacked.specs.NewFile.{file_segment, directory_segment, block_segment, metadata_segment, attachment_directory_segment, attachment_segment}
use Rattle.repacked.specs.NewFile.{annex_segments, new_segments, repacked}
use Rattle.repacked.specs.Refusals.{too_large, size_verdict}
use Rattle.repacked.specs.Claims.{new_places, no_segment, Written}
use Rattle.repacked.proofs.Lengths.{Kept, kept, file-content}
use Rattle.repacked.proofs.Places.{Placed, file-name, directory-name, block-name, metadata-name, attachments-name, attachment-name}

-- ---- the names: all are known, and one is that of the file segment

record Other (name : List ℕ) : Type 0 where
  known : name_bad name 0 ≡ false
  other : same_at name 0 name_file ≡ false

record Others : Type 0 where
  directory : Other name_directory
  block : Other name_sub_block
  metadata : Other name_metadata
  attachments : Other name_attachment_directory
  attachment : Other name_attachment

others : Others
unfolding name_bad same_at all_below any_of name_file name_directory name_sub_block name_metadata name_attachment name_attachment_directory
others =
    record {
      directory = record { known = refl; other = refl };
      block = record { known = refl; other = refl };
      metadata = record { known = refl; other = refl };
      attachments = record { known = refl; other = refl };
      attachment = record { known = refl; other = refl };
    }

file-known : (name_bad name_file 0 ≡ false) × (same_at name_file 0 name_file ≡ true)
unfolding name_bad same_at all_below any_of name_file
file-known = (refl, refl)

-- ---- each segment

later : (s : Segment) → length s.name ≡ 16 → Other s.name → Later s
later s n o = record { live = record { size = n; known = o.known }; other = o.other }

module _ (bs : List ℕ) where
  file-first : Kept bs → First (file_segment bs)
  unfolding file_segment
  file-first h = record { live = record { size = file-name bs; known = file-known.0 }; file = file-known.1; fixed = omega (arith, file-content bs h) }

  directory-later : Later (directory_segment bs)
  unfolding directory_segment
  directory-later = later (directory_segment bs) (directory-name bs) others.directory

  block-later : (k : ℕ) → Later (block_segment bs k)
  unfolding block_segment
  block-later k = later (block_segment bs k) (block-name bs k) others.block

  metadata-later : Later (metadata_segment bs)
  unfolding metadata_segment
  metadata-later = later (metadata_segment bs) (metadata-name bs) others.metadata

  attachments-later : Later (attachment_directory_segment bs)
  unfolding attachment_directory_segment
  attachments-later = later (attachment_directory_segment bs) (attachments-name bs) others.attachments

  attachment-later : (k : ℕ) → Later (attachment_segment bs k)
  unfolding attachment_segment
  attachment-later k = later (attachment_segment bs k) (attachment-name bs k) others.attachment

-- ---- all of them tile the new file

-- a segment that need not be there
if-later : (q : ℕ) (s : Segment) → Later s → AllOf Later (if_named q (s ∷ []) [])
if-later q s l = by_bool (eqb q 0) (λ e. rw e tt) (λ e. rw e (l, tt))

module _ (bs : List ℕ) where
  annexes-later : AllOf Later (annex_segments bs)
  unfolding annex_segments
  annexes-later =
      all_append Later (if_named (metadata_position bs) (metadata_segment bs ∷ []) []) _
      (if-later (metadata_position bs) (metadata_segment bs) (metadata-later bs))
      (all_append Later (if_named (attachment_directory_position bs) (attachment_directory_segment bs ∷ []) []) _
      (if-later (attachment_directory_position bs) (attachment_directory_segment bs) (attachments-later bs))
      (all-each Later (attachment_count bs) (attachment_segment bs) (λ k l. attachment-later bs k)))

  new-ordered : Kept bs → Ordered (new_segments bs)
  unfolding new_segments
  new-ordered h =
      let blocks = all-each Later (tile_count bs) (block_segment bs) (λ k l. block-later bs k) in
      (file-first bs h, (directory-later bs, all_append Later (each (tile_count bs) (block_segment bs)) (annex_segments bs) blocks annexes-later))

  pub new-tiles : AcceptedFile bs → too_large bs ≡ false → Tiles (new_segments bs)
  unfolding too_large repacked
  new-tiles a e =
      record {
        ordered = new-ordered (kept bs a);
        few = ltb-false 8192 (length (new_segments bs)) (none _ e 0);
        small = ltb-false (2 ^ 40) (length (packed (new_segments bs))) (none _ e 1);
      }

  -- so the refusals 1 to 5 are not given, they are the walked ones, and each is written where it stands
  module _ (t : Tiles (new_segments bs)) where
    pub new-pass : first (segments_rows (repacked bs)) ≡ Accepted
    unfolding repacked
    new-pass = segments-pass (new_segments bs) t

    pub new-walked : walked (repacked bs) ≡ new_places bs
    unfolding repacked
    new-walked = walked-packed (new_segments bs) t

    pub new-written : (i : ℕ) → i < length (new_segments bs) → Written bs i
    unfolding repacked
    new-written i h =
        record {
          bytes = segment-placed (new_segments bs) no_segment (all_named (new_segments bs) t.ordered) i h;
          used = used-placed (new_segments bs) t no_segment i h;
          allocated-is = allocated-placed (new_segments bs) t no_segment i h;
        }

    -- the segment s at p
    module _ (s : Segment) (p : ℕ) (at : Placed bs s p) where
      around : Tiles (at.before ++ (s ∷ at.behind))
      around = rw at.whole at t

      pub placed-among : Among p (new_places bs)
      placed-among = rw (at.whole, ← at.place) (among-all at.before s at.behind around)

      pub placed-name : same_at (repacked bs) p s.name ≡ true
      unfolding repacked
      placed-name = rw (at.whole, ← at.place) (name-there at.before s at.behind around)

      pub placed-room : room (repacked bs) p ≡ length s.content
      unfolding repacked
      placed-room = rw (at.whole, ← at.place) (room-there at.before s at.behind around)

      pub placed-names : Names (repacked bs) (walked (repacked bs)) p s.name
      placed-names = rw new-walked (placed-among, placed-name)

-- ---- a scan that a repack does not refuse

pub size-parts : (sc : Scan) → size_verdict sc ≡ Accepted → (verdict sc ≡ Accepted) × (too_large sc.file ≡ false)
unfolding size_verdict verdict
size-parts sc e = let both = first-both (checks sc) _ e in (both.0, (first-passed (too_large sc.file) _ Accepted both.1).0)

module _ (sc : Scan) (e : size_verdict sc ≡ Accepted) where
  pub scan-tiles : Tiles (new_segments sc.file)
  scan-tiles = let both = size-parts sc e in new-tiles sc.file (record { release = sc.release; accepted = both.0 }) both.1

  pub segments-listed : walked (repacked sc.file) ≡ new_places sc.file
  segments-listed = new-walked sc.file scan-tiles
