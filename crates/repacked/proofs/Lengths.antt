-- How long the contents of the new file's segments are: each has the size that its place is computed by. Assumes nothing.
use Prim.Native.Nat.{ℕ, zero, suc, ◌+◌, ◌*◌, ◌≤◌, ◌<◌}
use mathlib.Core.Path.{◌≡◌, refl, ap, ◌∙◌}
use mathlib.Core.List.{List}
use native.Mathlib.Omega.{arith}
use lib.ListN.{length, length-append}
use lib.Dec.{eqb}
use borrow.Author.Tests.{eqb-false}
use Rattle.format.specs.File.{directory_position, metadata_position, attachment_directory_position}
use Rattle.format.specs.Entry.{dimension_count, next_entry}
use Rattle.format.specs.SubBlock.{fixed_part, metadata_place, pixels_place, attachment_place}
use Rattle.format.specs.Directory.{tile_count, entry_place}
use Rattle.format.specs.Attachments.{xml_size, xml_attachment_size, attachment_entry_count, attachment_count, attachment_data_size}
use Rattle.format.specs.Scan.{scan_of}
use Rattle.format.specs.Rules.{AcceptedFile}
use Rattle.format.proofs.Below.{by_bool}
use Rattle.subblocks.specs.Judged.{Filled}
use Rattle.subblocks.proofs.PartLaws.{sizes-in, filled_in}
use Rattle.judge.proofs.AcceptedFile.{tiled, described, attached}
use Rattle.pack.specs.Pack.{joined}
use Rattle.format.proofs.Parts.{part_length}
use Rattle.pack.proofs.Numbers.{bytes-length, zeros-length}
use Rattle.repacked.specs.Contents.{file_content, moved_entry, directory_content, parts_size, sub_block_content, metadata_content}
use Rattle.repacked.specs.Contents.{moved_attachment_entry, attachment_directory_content, attachment_content}
use Rattle.equivalent.specs.Same.{attachment_entry_of}
use Rattle.repacked.specs.NewFile.{entry_block, entry_attachment, new_block, new_attachment, new_entry, new_attachment_entry}
use Rattle.repacked.specs.NewFile.{entry_size, entries_size, directory_size, sub_block_size}
use Rattle.repacked.specs.NewFile.{metadata_content_size, attachment_directory_size, attachment_content_size}
use Rattle.repacked.specs.NewFile.{file_segment, directory_segment, block_segment, metadata_segment, attachment_directory_segment, attachment_segment}

-- ---- the file segment

pub file-length : (bs : List ℕ) (d m a : ℕ) → 80 ≤ length bs → length (file_content bs d m a) ≡ 512
unfolding file_content
file-length bs d m a h =
    simp (length-append, bytes-length, zeros-length, part_length bs 32 8 (omega arith), part_length bs 48 32 (omega arith))

-- ---- an entry, of which all lies in the old file

pub entry-size-is : (bs : List ℕ) (e : ℕ) → entry_size bs e ≡ 32 + 20 * dimension_count bs e
unfolding entry_size
entry-size-is bs e = refl

pub entry_length : (bs : List ℕ) (e p : ℕ) → next_entry bs e ≤ length bs → length (moved_entry bs e p) ≡ entry_size bs e
unfolding moved_entry entry_size next_entry
entry_length bs e p h =
    let a : e + 6 ≤ length bs = omega arith in
    let b : e + 14 + 9 ≤ length bs = omega arith in
    let n = 4 + 20 * dimension_count bs e in
    let c : e + 28 + n ≤ length bs = omega arith in
    simp (length-append, bytes-length, zeros-length, part_length bs e 6 a, part_length bs (e + 14) 9 b, part_length bs (e + 28) n c) (omega arith)

-- the entries below k of them, one after the other
pub entries-length : (bs : List ℕ) (k : ℕ) → ((i : ℕ) → i < k → next_entry bs (entry_place bs i) ≤ length bs) → length (joined k (new_entry bs)) ≡ entries_size bs k
unfolding joined new_entry entries_size
entries-length bs zero h = refl
entries-length bs (suc k) h =
    rw (length-append, entries-length bs k (λ i l. h i (omega arith)), entry_length bs (entry_place bs k) (new_block bs k) (h k (omega arith)))

-- ---- the directory at d, with those entries

pub directory-length : (bs : List ℕ) (d : ℕ) (entries : List ℕ) → d + 36 ≤ length bs → length (directory_content bs d entries) ≡ 128 + length entries
unfolding directory_content
directory-length bs d entries h =
    let a : d + 32 + 4 ≤ length bs = omega arith in
    simp (length-append, zeros-length, part_length bs (d + 32) 4 a) (omega arith)

-- ---- the sub-block at q, whose entry is at e

-- the copy of the entry lies in the fixed part
pub copy-fits : (n : ℕ) → 48 + 20 * n ≤ fixed_part n
unfolding fixed_part
copy-fits n = omega arith

pub block-length : (bs : List ℕ) (e q p : ℕ) → next_entry bs e ≤ length bs → q + 48 ≤ length bs → metadata_place bs e q + parts_size bs q ≤ length bs
    → length (sub_block_content bs e q p) ≡ sub_block_size bs e q
unfolding sub_block_content sub_block_size
block-length bs e q p h k l =
    let a : q + 32 + 16 ≤ length bs = omega arith in
    simp (length-append, zeros-length, part_length bs (q + 32) 16 a, part_length bs (metadata_place bs e q) (parts_size bs q) l, entry_length bs e p h)
    (omega (arith, entry-size-is bs e, copy-fits (dimension_count bs e)))

-- ---- the metadata segment at m

pub metadata-length : (bs : List ℕ) (m : ℕ) → m + 288 + (xml_size bs m + xml_attachment_size bs m) ≤ length bs
    → length (metadata_content bs m) ≡ metadata_content_size bs m
unfolding metadata_content metadata_content_size
metadata-length bs m h =
    let a : m + 32 + 8 ≤ length bs = omega arith in
    simp (length-append, zeros-length, part_length bs (m + 32) 8 a, part_length bs (m + 288) (xml_size bs m + xml_attachment_size bs m) h)
    (omega arith)

-- ---- an attachment's entry

pub attachment-entry-length : (bs : List ℕ) (e p : ℕ) → e + 128 ≤ length bs → length (moved_attachment_entry bs e p) ≡ 128
unfolding moved_attachment_entry
attachment-entry-length bs e p h =
    let a : e + 2 ≤ length bs = omega arith in
    let b : e + 20 + 108 ≤ length bs = omega arith in
    simp (length-append, bytes-length, zeros-length, part_length bs e 2 a, part_length bs (e + 20) 108 b)

pub attachment-entries-length : (bs : List ℕ) (k : ℕ) → ((i : ℕ) → i < k → attachment_entry_of bs i + 128 ≤ length bs)
    → length (joined k (new_attachment_entry bs)) ≡ 128 * k
unfolding joined new_attachment_entry
attachment-entries-length bs zero h = refl
attachment-entries-length bs (suc k) h =
    let ih = attachment-entries-length bs k (λ i l. h i (omega arith)) in
    rw (length-append, attachment-entry-length bs (attachment_entry_of bs k) (new_attachment bs k) (h k (omega arith)), ih) (omega arith)

-- ---- the attachment directory at t, with those entries

pub attachments-length : (bs : List ℕ) (t : ℕ) (entries : List ℕ) → t + 36 ≤ length bs → length (attachment_directory_content bs t entries) ≡ 256 + length entries
unfolding attachment_directory_content
attachments-length bs t entries h =
    let a : t + 32 + 4 ≤ length bs = omega arith in
    simp (length-append, zeros-length, part_length bs (t + 32) 4 a) (omega arith)

-- ---- the attachment at q, whose entry is at e

pub attachment-length : (bs : List ℕ) (e q p : ℕ) → e + 128 ≤ length bs → q + 288 + attachment_data_size bs q ≤ length bs
    → length (attachment_content bs e q p) ≡ attachment_content_size bs q
unfolding attachment_content attachment_content_size
attachment-length bs e q p h k =
    let a : q + 32 + 4 ≤ length bs = omega arith in
    simp (length-append, zeros-length, part_length bs (q + 32) 4 a, part_length bs (q + 288) (attachment_data_size bs q) k, attachment-entry-length bs e p h)
    (omega arith)

-- ---- what a new file keeps of an accepted one lies in it

pub record Kept (bs : List ℕ) : Type 0 where
  pub file : 112 ≤ length bs
  pub directory : directory_position bs + 36 ≤ length bs
  pub entry : (k : ℕ) → k < tile_count bs → next_entry bs (entry_place bs k) ≤ length bs
  pub sizes : (k : ℕ) → k < tile_count bs → entry_block bs k + 48 ≤ length bs
  pub parts : (k : ℕ) → k < tile_count bs → metadata_place bs (entry_place bs k) (entry_block bs k) + parts_size bs (entry_block bs k) ≤ length bs
  pub metadata : (metadata_position bs ≡ 0 → ⊥)
      → metadata_position bs + 288 + (xml_size bs (metadata_position bs) + xml_attachment_size bs (metadata_position bs)) ≤ length bs
  pub attachments : (attachment_directory_position bs ≡ 0 → ⊥) → attachment_directory_position bs + 36 ≤ length bs
  pub attachment-entry : (k : ℕ) → k < attachment_count bs → attachment_entry_of bs k + 128 ≤ length bs
  pub attachment : (k : ℕ) → k < attachment_count bs → entry_attachment bs k + 288 + attachment_data_size bs (entry_attachment bs k) ≤ length bs

-- an attachment is one of an attachment directory
pub record Counted (bs : List ℕ) (k : ℕ) : Type 0 where
  pub named : attachment_directory_position bs ≡ 0 → ⊥
  pub below : k < attachment_entry_count bs (attachment_directory_position bs)

pub counted : (bs : List ℕ) (k : ℕ) → k < attachment_count bs → Counted bs k
unfolding attachment_count
counted bs k h =
    by_bool (eqb (attachment_directory_position bs) 0)
    (λ e. let l : k < 0 = rw e at h in absurd (omega arith))
    (λ e. record { named = eqb-false _ 0 e; below = rw e at h })

parts_in : (bs : List ℕ) (e q : ℕ) → Filled bs e bs q → metadata_place bs e q + parts_size bs q ≤ length bs
unfolding pixels_place attachment_place parts_size
parts_in bs e q f = omega (arith, (filled_in bs e bs q f).attachment)

pub kept : (bs : List ℕ) → AcceptedFile bs → Kept bs
kept bs a =
    let sc = scan_of bs a.release in
    let t = tiled sc a.accepted in
    record {
      file = t.long;
      directory = t.count;
      entry = λ k l. (t.tile k l).filled.agreed.placed.listed.entry;
      sizes = λ k l. sizes-in bs (entry_place bs k) bs (entry_block bs k) (t.tile k l).filled.agreed;
      parts = λ k l. parts_in bs (entry_place bs k) (entry_block bs k) (t.tile k l).filled;
      metadata = λ some. let d = described sc a.accepted some in omega (arith, d.room_in, d.fits);
      attachments = λ some. (attached sc a.accepted some).count;
      attachment-entry = λ k l. let c = counted bs k l in ((attached sc a.accepted c.named).attachment k c.below).entry;
      attachment = λ k l.
          let c = counted bs k l in
          let d = (attached sc a.accepted c.named).attachment k c.below in
          omega (arith, d.room_in, d.fits);
    }

-- ---- the contents of the new file's segments

module _ (bs : List ℕ) (h : Kept bs) where
  pub file-content : length (file_segment bs).content ≡ 512
  unfolding file_segment
  file-content = file-length bs _ _ _ (omega (arith, h.file))

  pub directory-content : length (directory_segment bs).content ≡ directory_size bs
  unfolding directory_segment directory_size
  directory-content =
      directory-length bs (directory_position bs) (joined (tile_count bs) (new_entry bs)) h.directory ∙
      ap (λ n. 128 + n) (entries-length bs (tile_count bs) h.entry)

  pub block-content : (k : ℕ) → k < tile_count bs → length (block_segment bs k).content ≡ sub_block_size bs (entry_place bs k) (entry_block bs k)
  unfolding block_segment
  block-content k l = block-length bs (entry_place bs k) (entry_block bs k) (new_block bs k) (h.entry k l) (h.sizes k l) (h.parts k l)

  pub metadata-content : (metadata_position bs ≡ 0 → ⊥) → length (metadata_segment bs).content ≡ metadata_content_size bs (metadata_position bs)
  unfolding metadata_segment
  metadata-content some = metadata-length bs (metadata_position bs) (h.metadata some)

  pub attachments-content : (attachment_directory_position bs ≡ 0 → ⊥)
      → length (attachment_directory_segment bs).content ≡ attachment_directory_size (attachment_count bs)
  unfolding attachment_directory_segment attachment_directory_size
  attachments-content some =
      attachments-length bs (attachment_directory_position bs) (joined (attachment_count bs) (new_attachment_entry bs)) (h.attachments some) ∙
      ap (λ n. 256 + n) (attachment-entries-length bs (attachment_count bs) h.attachment-entry)

  pub attachment-content : (k : ℕ) → k < attachment_count bs → length (attachment_segment bs k).content ≡ attachment_content_size bs (entry_attachment bs k)
  unfolding attachment_segment
  attachment-content k l =
      attachment-length bs (attachment_entry_of bs k) (entry_attachment bs k) (new_attachment bs k) (h.attachment-entry k l) (h.attachment k l)
