-- What is read in the new file of an old one, bs: positions, entries and parts, segment by segment. Assumes nothing.
use Prim.Native.Nat.{ℕ, zero, suc, ◌+◌, ◌*◌, ◌^◌, ◌≤◌, ◌<◌}
use mathlib.Core.Path.{◌≡◌, refl, sym}
use mathlib.Core.List.{List, ◌++◌}
use native.Mathlib.Omega.{arith}
use lib.ListN.{length}
use lib.Dec.{eqb}
use borrow.Author.Tests.{eqb-false}
use Rattle.format.specs.File.{directory_position, metadata_position, attachment_directory_position}
use Rattle.format.specs.Entry.{next_entry}
use Rattle.format.specs.Directory.{entry_count, tile_count, entry_place}
use Rattle.format.specs.Attachments.{attachment_entry, attachment_count}
use Rattle.format.proofs.Below.{by_bool}
use Rattle.equivalent.specs.Same.{Same, SameMetadata, attachment_entry_of}
use Rattle.equivalent.proofs.Reading.{u32-inside}
use Rattle.equivalent.proofs.Entries.{count_same}
use Rattle.pack.specs.Pack.{Segment, joined}
use Rattle.pack.proofs.Sizes.{size-header}
use Rattle.pack.proofs.Joined.{joined-around}
use Rattle.pack.proofs.Tiling.{Tiles}
use Rattle.repacked.specs.NewFile.{if_named, entry_block, entry_attachment, entries_size}
use Rattle.repacked.specs.NewFile.{new_directory, new_block, new_metadata, new_attachment_directory, new_attachment, new_entry, new_attachment_entry}
use Rattle.repacked.specs.NewFile.{file_segment, directory_segment, block_segment, metadata_segment, attachment_directory_segment, attachment_segment}
use Rattle.repacked.specs.NewFile.{new_segments, repacked}
use Rattle.repacked.proofs.Lengths.{Kept, counted, entry-size-is, entries-length, attachment-entries-length}
use Rattle.repacked.proofs.Written.{Stands, stands-front, stands-back}
use Rattle.repacked.proofs.Written.{FileFields, file-fields, EntryFields, entry-fields, DirectoryFields, directory-fields, BlockFields, block-fields}
use Rattle.repacked.proofs.Written.{metadata-fields, AttachmentEntryFields, attachment-entry-fields, AttachmentsFields, attachments-fields}
use Rattle.repacked.proofs.Written.{AttachmentFields, attachment-fields}
use Rattle.repacked.proofs.Places.{Placed, file-placed, directory-placed, block-placed, metadata-placed, attachments-placed, attachment-placed}
use Rattle.repacked.proofs.Places.{placed-within, placed-content}

-- ---- the new file is short

pub tiles-short : (bs : List ℕ) → Tiles (new_segments bs) → length (repacked bs) ≤ 2 ^ 40
unfolding repacked
tiles-short bs t = t.small

-- ---- entries one after the other: entry k of n, which stand from p on, those before k having m bytes

stands-joined : (fs : List ℕ) (p n : ℕ) (f : ℕ → List ℕ) (k m q : ℕ) → k < n → length (joined k f) ≡ m → q ≡ p + m
    → Stands fs p (joined n f) → Stands fs q (f k)
stands-joined fs p n f k m q l e i h =
    let r = joined-around n f k l in
    let g : Stands fs p (joined k f ++ (f k ++ r.rest)) = rw r.whole at h in
    stands-front fs q (f k) r.rest (stands-back fs p (joined k f) (f k ++ r.rest) g m q e i)

module _ (bs : List ℕ) (h : Kept bs) (short : length (repacked bs) ≤ 2 ^ 40) where
  abbrev nf : List ℕ
  nf = repacked bs

  -- every place is a Long
  place-small : {x : Segment} {p : ℕ} → Placed bs x p → p < 2 ^ 64
  place-small {x} {p} at = omega (arith, placed-within bs x p at, size-header (length x.content))

  if-small : (q p : ℕ) → ((q ≡ 0 → ⊥) → p < 2 ^ 64) → if_named q p 0 < 2 ^ 64
  if-small q p f = by_bool (eqb q 0) (λ e. rw e (omega arith)) (λ e. rw e (f (eqb-false q 0 e)))

  -- ---- the file segment

  pub file-read :
      FileFields bs nf new_directory
      (if_named (metadata_position bs) (new_metadata bs) 0)
      (if_named (attachment_directory_position bs) (new_attachment_directory bs) 0)
  unfolding file_segment
  file-read =
      file-fields bs nf _ _ _ (omega (arith, h.file)) (place-small (directory-placed bs h))
      (if-small (metadata_position bs) (new_metadata bs) (λ some. place-small (metadata-placed bs h some)))
      (if-small (attachment_directory_position bs) (new_attachment_directory bs) (λ some. place-small (attachments-placed bs h some)))
      (placed-content bs (file_segment bs) 0 (file-placed bs h))

  -- ---- the directory

  directory-read : DirectoryFields bs (directory_position bs) (joined (tile_count bs) (new_entry bs)) nf new_directory
  unfolding directory_segment
  directory-read =
      directory-fields bs (directory_position bs) (joined (tile_count bs) (new_entry bs)) nf new_directory h.directory
      (placed-content bs (directory_segment bs) new_directory (directory-placed bs h))

  -- EntryCount, where the file segment says
  pub count-read : Same 4 bs (directory_position bs + 32) nf (directory_position nf + 32)
  count-read = rw file-read.directory directory-read.count

  pub tiles-read : tile_count nf ≡ tile_count bs
  unfolding tile_count entry_count
  tiles-read = sym (u32-inside 4 bs (directory_position bs + 32) nf (directory_position nf + 32) count-read 0 _ _ (omega arith) (omega arith) (omega arith))

  -- entry k stands behind those before it
  entry-there : (k q : ℕ) → k < tile_count bs → q ≡ new_directory + 160 + entries_size bs k → Stands nf q (new_entry bs k)
  entry-there k q l i =
      stands-joined nf (new_directory + 160) (tile_count bs) (new_entry bs) k (entries_size bs k) q l
      (entries-length bs k (λ j m. h.entry j (omega arith))) i directory-read.listed

  entry-said : (k q : ℕ) → k < tile_count bs → Stands nf q (new_entry bs k) → EntryFields bs (entry_place bs k) nf q (new_block bs k)
  unfolding new_entry
  entry-said k q l = entry-fields bs (entry_place bs k) nf q (new_block bs k) (h.entry k l) (place-small (block-placed bs h k l))

  pub entry_at : (k : ℕ) → k ≤ tile_count bs → entry_place nf k ≡ new_directory + 160 + entries_size bs k
  unfolding entry_place entries_size next_entry
  entry_at zero l = rw file-read.directory (omega arith)
  entry_at (suc k) l =
      let at = entry_at k (omega arith) in
      let r = entry-said k (entry_place nf k) (omega arith) (entry-there k (entry_place nf k) (omega arith) at) in
      omega (arith, count_same r.same, entry-size-is bs (entry_place bs k))

  pub entry-stands : (k : ℕ) → k < tile_count bs → Stands nf (entry_place nf k) (new_entry bs k)
  entry-stands k l = entry-there k (entry_place nf k) l (entry_at k (omega arith))

  pub entry_read : (k : ℕ) → k < tile_count bs → EntryFields bs (entry_place bs k) nf (entry_place nf k) (new_block bs k)
  entry_read k l = entry-said k (entry_place nf k) l (entry-stands k l)

  -- ---- the sub-blocks

  pub block_read : (k : ℕ) → k < tile_count bs → BlockFields bs (entry_place bs k) (entry_block bs k) nf (new_block bs k)
  unfolding block_segment
  block_read k l =
      block-fields bs (entry_place bs k) (entry_block bs k) nf (new_block bs k) (h.entry k l) (h.sizes k l) (h.parts k l)
      (placed-content bs (block_segment bs k) (new_block bs k) (block-placed bs h k l))

  -- ---- the metadata segment

  pub metadata-read : (metadata_position bs ≡ 0 → ⊥) → SameMetadata bs (metadata_position bs) nf (new_metadata bs)
  unfolding metadata_segment
  metadata-read some =
      metadata-fields bs (metadata_position bs) nf (new_metadata bs) (h.metadata some)
      (placed-content bs (metadata_segment bs) (new_metadata bs) (metadata-placed bs h some))

  -- ---- the attachment directory

  pub attachments-read : (attachment_directory_position bs ≡ 0 → ⊥)
      → AttachmentsFields bs (attachment_directory_position bs) (joined (attachment_count bs) (new_attachment_entry bs)) nf (new_attachment_directory bs)
  unfolding attachment_directory_segment
  attachments-read some =
      attachments-fields bs (attachment_directory_position bs) (joined (attachment_count bs) (new_attachment_entry bs)) nf (new_attachment_directory bs)
      (h.attachments some)
      (placed-content bs (attachment_directory_segment bs) (new_attachment_directory bs) (attachments-placed bs h some))

  pub attachment-entry-stands : (k : ℕ) → k < attachment_count bs → Stands nf (attachment_entry (new_attachment_directory bs) k) (new_attachment_entry bs k)
  unfolding attachment_entry
  attachment-entry-stands k l =
      stands-joined nf (new_attachment_directory bs + 288) (attachment_count bs) (new_attachment_entry bs) k (128 * k) _ l
      (attachment-entries-length bs k (λ j m. h.attachment-entry j (omega arith))) refl (attachments-read (counted bs k l).named).listed

  pub attachment-entry-read : (k : ℕ) → k < attachment_count bs
      → AttachmentEntryFields bs (attachment_entry_of bs k) nf (attachment_entry (new_attachment_directory bs) k) (new_attachment bs k)
  unfolding new_attachment_entry
  attachment-entry-read k l =
      attachment-entry-fields bs (attachment_entry_of bs k) nf (attachment_entry (new_attachment_directory bs) k) (new_attachment bs k) (h.attachment-entry k l)
      (place-small (attachment-placed bs h k l)) (attachment-entry-stands k l)

  -- ---- the attachments

  pub attachment-read : (k : ℕ) → k < attachment_count bs → AttachmentFields bs (attachment_entry_of bs k) (entry_attachment bs k) nf (new_attachment bs k)
  unfolding attachment_segment
  attachment-read k l =
      attachment-fields bs (attachment_entry_of bs k) (entry_attachment bs k) nf (new_attachment bs k) (h.attachment-entry k l) (h.attachment k l)
      (placed-content bs (attachment_segment bs k) (new_attachment bs k) (attachment-placed bs h k l))
