-- What an accepted file has: its entries are judged, and all that is handed out lies in it. Assumes nothing.
use Prim.Native.Nat.{ℕ, ◌+◌, ◌^◌, ◌≤◌, ◌<◌}
use mathlib.Core.Path.{◌≡◌, refl, sym, ◌∙◌}
use mathlib.Core.List.{List}
use native.Mathlib.Omega.{arith}
use lib.ListN.{length}
use borrow.Author.Tests.{ltb-false, ne_eqb, not-false}
use Rattle.format.specs.Scan.{Scan, scan_of, block_file}
use Rattle.format.specs.Checks.{first}
use Rattle.format.specs.Names.{name_attachment}
use Rattle.format.specs.Segments.{room, RoomIn}
use Rattle.format.specs.File.{directory_position, metadata_position, attachment_directory_position}
use Rattle.format.specs.Entry.{file_position}
use Rattle.format.specs.Directory.{tile_count, entry_count, entry_place, directory_bad, head_rows, tile_rows, sub_block_rows, entry_rows, directory_rows}
use Rattle.format.specs.Attachments.{xml_size, xml_attachment_size, metadata_bad, metadata_rows}
use Rattle.format.specs.Attachments.{attachment_entry_count, attachment_entry, attachment_directory_bad, attachment_position, attachment_data_size, attachment_data_bad}
use Rattle.format.specs.Attachments.{attachment_entry_rows, attachment_directory_rows, attachments_rows}
use Rattle.format.specs.Rules.{verdict, AcceptedFile}
use Rattle.format.specs.Answers.{VerdictAnswered}
use Rattle.format.specs.Records.{tile_entry, tile_file, tile_position}
use Rattle.format.specs.declared.Release.{Release}
use Rattle.format.specs.Checks.{Verdict}
use Rattle.format.specs.Checks.{Accepted}
use Rattle.format.proofs.Below.{none}
use Rattle.format.proofs.Firsts.{first-both, first-passed, passed, rows-each}
use Rattle.format.proofs.SegmentLaws.{walked-room}
use Rattle.format.proofs.Walk.{file-long}
use Rattle.format.proofs.Acceptance.{verdict-parts}
use Rattle.segments.proofs.Walking.{file-small}
use Rattle.subblocks.specs.Judged.{Listed, Judged}
use Rattle.directory.proofs.Stages.{headed, placed, filled}
use Rattle.attachments.proofs.AttachmentLaws.{entries-within, entry-within}
use Rattle.judge.proofs.LocatedLaws.{located}

-- ---- tiles

pub entry-judged : (sc : Scan) (d e : ℕ) → RoomIn sc.file d → first (entry_rows sc d e) ≡ Accepted
    → Judged sc.file e (block_file sc e) (file_position sc.file e) sc.release
unfolding entry_rows
entry-judged sc d e r h =
    let q = file_position sc.file e in
    let a = first-both (head_rows sc.file d e) _ h in
    let b = first-both (tile_rows sc.file e (block_file sc e)) _ a.1 in
    let c = first-both (sub_block_rows sc.file e (block_file sc e) q) _ b.1 in
    let i = headed sc.file d e r a.0 in
    record { filled = filled sc.file e (block_file sc e) q (placed sc e i.few i.entry b.0) c.0; attachment = c.1 }

pub record Tiled (sc : Scan) : Type 0 where
  pub long : 112 ≤ length sc.file
  pub small : length sc.file ≤ 2 ^ 40
  pub directory : RoomIn sc.file (directory_position sc.file)
  pub count : directory_position sc.file + 36 ≤ length sc.file
  pub entries : entry_place sc.file 0 ≤ length sc.file
  pub few : tile_count sc.file ≤ 4096
  pub tile : (k : ℕ) → k < tile_count sc.file → Judged sc.file (tile_entry sc k) (tile_file sc k) (tile_position sc k) sc.release

pub tiled : (sc : Scan) → verdict sc ≡ Accepted → Tiled sc
unfolding directory_rows directory_bad tile_count entry_place
tiled sc h =
    let p = verdict-parts sc h in
    let l = located sc.file p.file in
    let d = directory_position sc.file in
    let both = first-passed (directory_bad sc.file d) _ _ p.directory in
    let r = ltb-false (room sc.file d) 128 (none _ both.0 0) in
    record {
      long = file-long sc.file p.segments;
      small = file-small sc.file p.segments;
      directory = l.directory;
      count = omega (arith, l.directory);
      entries = omega (arith, l.directory);
      few = ltb-false 4096 (entry_count sc.file d) (none _ both.0 2);
      tile = λ k i.
          entry-judged sc d (tile_entry sc k) l.directory
          (rows-each (entry_count sc.file d) k (λ j. entry_rows sc d (tile_entry sc j)) both.1 i);
    }

-- ---- the metadata segment, at m

pub record Described (sc : Scan) (m : ℕ) : Type 0 where
  pub room_in : RoomIn sc.file m
  pub fits : 256 + xml_size sc.file m + xml_attachment_size sc.file m ≤ room sc.file m

pub described : (sc : Scan) → verdict sc ≡ Accepted → (metadata_position sc.file ≡ 0 → ⊥) → Described sc (metadata_position sc.file)
unfolding metadata_rows metadata_bad
described sc h some =
    let p = verdict-parts sc h in
    let l = located sc.file p.file in
    let m = metadata_position sc.file in
    let rows = rw (ne_eqb m 0 some) at p.metadata in
    let good = (first-passed (metadata_bad sc.file m) _ _ rows).0 in
    record {
      room_in = l.metadata some;
      fits = ltb-false (room sc.file m) (256 + xml_size sc.file m + xml_attachment_size sc.file m) (none _ good 2);
    }

-- ---- attachments

-- the attachment at q, whose entry is at e
pub record Attached (sc : Scan) (e q : ℕ) : Type 0 where
  pub entry : e + 128 ≤ length sc.file
  pub room_in : RoomIn sc.file q
  pub fits : 256 + attachment_data_size sc.file q ≤ room sc.file q

-- the attachment directory at t
pub record Annexed (sc : Scan) (t : ℕ) : Type 0 where
  pub count : t + 36 ≤ length sc.file
  pub attachment : (k : ℕ) → k < attachment_entry_count sc.file t → Attached sc (attachment_entry t k) (attachment_position sc.file (attachment_entry t k))

directory-long : (t n l : ℕ) → attachment_entry t n ≤ l → t + 36 ≤ l
unfolding attachment_entry
directory-long t n l h = omega arith

pub attached : (sc : Scan) → verdict sc ≡ Accepted → (attachment_directory_position sc.file ≡ 0 → ⊥) → Annexed sc (attachment_directory_position sc.file)
unfolding attachments_rows attachment_directory_rows attachment_entry_rows attachment_data_bad
attached sc h some =
    let p = verdict-parts sc h in
    let l = located sc.file p.file in
    let t = attachment_directory_position sc.file in
    let n = attachment_entry_count sc.file t in
    let rows = rw (ne_eqb t 0 some) at p.attachments in
    let both = first-passed (attachment_directory_bad sc.file t) _ _ rows in
    let within = entries-within sc.file t (l.attachments some) both.0 in
    record {
      count = directory-long t n _ within;
      attachment = λ k i.
          let e = attachment_entry t k in
          let q = attachment_position sc.file e in
          let r = rows-each n k (λ j. attachment_entry_rows sc.file (attachment_entry t j)) both.1 i in
          record {
            entry = entry-within t n k e (length sc.file) within i refl;
            room_in = walked-room sc.file q name_attachment (not-false _ (passed (attachment_entry_rows sc.file e) r 2));
            fits = ltb-false (room sc.file q) (256 + attachment_data_size sc.file q) (none _ (passed (attachment_entry_rows sc.file e) r 4) 1);
          };
    }

-- ---- what may be read of the lent file bs where it is accepted, under whichever release

-- the release aside, which only the chunks depend on
pub record TiledFile (bs : List ℕ) : Type 0 where
  pub long : 112 ≤ length bs
  pub small : length bs ≤ 2 ^ 40
  pub count : directory_position bs + 36 ≤ length bs
  pub entries : entry_place bs 0 ≤ length bs
  pub few : tile_count bs ≤ 4096
  pub listed : (k : ℕ) → k < tile_count bs → Listed bs (entry_place bs k)

pub tiled-file : (bs : List ℕ) → AcceptedFile bs → TiledFile bs
tiled-file bs a =
    let t = tiled (scan_of bs a.release) a.accepted in
    record {
      long = t.long;
      small = t.small;
      count = t.count;
      entries = t.entries;
      few = t.few;
      listed = λ k l. (t.tile k l).filled.agreed.placed.listed;
    }

-- by the release, and by the answer v
pub accepted-file : (bs : List ℕ) (r : Release) (v : Verdict) → VerdictAnswered (verdict (scan_of bs r)) v → v ≡ Accepted → AcceptedFile bs
accepted-file bs r v a h = record { release = r; accepted = sym a.answer_is ∙ h }

pub accepted-under : (bs : List ℕ) (r : Release) → verdict (scan_of bs r) ≡ Accepted → AcceptedFile bs
accepted-under bs r h = record { release = r; accepted = h }

module _ (bs : List ℕ) (a : AcceptedFile bs) where
  pub accepted-long : 112 ≤ length bs
  accepted-long = (tiled-file bs a).long

  pub accepted-entries : entry_place bs 0 ≤ length bs
  accepted-entries = (tiled-file bs a).entries

  -- EntryCount of the directory at d
  pub accepted-count : (d : ℕ) → d ≡ directory_position bs → d + 36 ≤ length bs
  accepted-count d e = rw e (tiled-file bs a).count

  -- EntryCount of the attachment directory at t
  pub accepted-attachments : (t : ℕ) → t ≡ attachment_directory_position bs → (t ≡ 0 → ⊥) → t + 36 ≤ length bs
  accepted-attachments t e some = rw e (attached (scan_of bs a.release) a.accepted (λ z. some (e ∙ z))).count
