-- The new file says the same as the old one, bs, and its positions are the new places. That it is accepted is proved elsewhere. Assumes nothing.
use Prim.Native.Nat.{ℕ, zero, suc, ◌^◌, ◌≤◌, ◌<◌}
use mathlib.Core.Path.{◌≡◌, refl, sym, ◌∙◌}
use mathlib.Core.List.{List}
use native.Mathlib.Omega.{arith}
use lib.ListN.{length}
use lib.Dec.{eqb}
use borrow.Author.Tests.{ne_eqb}
use Rattle.format.specs.Scan.{Scan}
use Rattle.format.specs.File.{metadata_position, attachment_directory_position}
use Rattle.format.specs.Entry.{file_position}
use Rattle.format.specs.SubBlock.{metadata_place}
use Rattle.format.specs.Directory.{tile_count, entry_place}
use Rattle.format.specs.Attachments.{attachment_entry_count, attachment_count}
use Rattle.format.specs.Rules.{verdict}
use Rattle.format.specs.Checks.{Accepted}
use Rattle.format.proofs.Below.{by_bool}
use Rattle.equivalent.specs.Same.{SameBlock, SameMetadata, SameAttachments, SameScans}
use Rattle.equivalent.proofs.Entries.{count_same}
use Rattle.pack.proofs.Sizes.{size-header}
use Rattle.repacked.specs.Contents.{parts_size}
use Rattle.repacked.specs.NewFile.{if_named, entry_block}
use Rattle.repacked.specs.NewFile.{new_directory, new_block, new_metadata, new_attachment_directory, repacked, repacked_scan}
use Rattle.repacked.specs.Claims.{Positions}
use Rattle.repacked.proofs.Lengths.{Kept, counted}
use Rattle.repacked.proofs.Reading.{file-read, count-read, entry_read, block_read, metadata-read}
use Rattle.repacked.proofs.Reading.{attachments-read, attachment-entry-read, attachment-read}

-- ---- no segment behind the file segment stands at 0

directory-some : 0 < new_directory
unfolding new_directory
directory-some = omega (arith, size-header 512)

pub block-some : (bs : List ℕ) (k : ℕ) → 0 < new_block bs k
unfolding new_block
block-some bs zero = omega (arith, directory-some)
block-some bs (suc k) = omega (arith, block-some bs k)

pub metadata-some : (bs : List ℕ) → 0 < new_metadata bs
unfolding new_metadata
metadata-some bs = block-some bs (tile_count bs)

pub attachments-some : (bs : List ℕ) → 0 < new_attachment_directory bs
unfolding new_attachment_directory
attachments-some bs = omega (arith, metadata-some bs)

-- ---- a position q that may be 0 for none, and the new one, r, of the place p

module _ (q r p : ℕ) (e : r ≡ if_named q p 0) where
  if-named : (q ≡ 0 → ⊥) → r ≡ p
  if-named some = e ∙ rw (ne_eqb q 0 some) refl

  both-named : 0 < p → eqb q 0 ≡ eqb r 0
  both-named l =
      by_bool (eqb q 0)
      (λ t. rw (e, t))
      (λ t. rw (e, t) (sym (ne_eqb p 0 (λ z. omega arith))))

module _ (bs : List ℕ) (h : Kept bs) (s : length (repacked bs) ≤ 2 ^ 40) where
  abbrev nf : List ℕ
  nf = repacked bs

  -- ---- entries and their sub-blocks

  pub block-moved : (k : ℕ) → k < tile_count bs → SameBlock bs (entry_place bs k) bs (entry_block bs k) nf (entry_place nf k) nf (new_block bs k)
  unfolding metadata_place parts_size
  block-moved k l =
      let b = block_read bs h s k l in
      record { sizes = b.sizes; parts = rw (← count_same (entry_read bs h s k l).same) b.parts }

  pub block_same : (k : ℕ) → k < tile_count bs → SameBlock bs (entry_place bs k) bs (entry_block bs k) nf (entry_place nf k) nf (file_position nf (entry_place nf k))
  block_same k l = rw (entry_read bs h s k l).position (block-moved k l)

  -- ---- the metadata segment

  pub metadata-named : eqb (metadata_position bs) 0 ≡ eqb (metadata_position nf) 0
  metadata-named = both-named (metadata_position bs) (metadata_position nf) (new_metadata bs) (file-read bs h s).metadata (metadata-some bs)

  pub metadata-at : (metadata_position bs ≡ 0 → ⊥) → metadata_position nf ≡ new_metadata bs
  metadata-at = if-named (metadata_position bs) (metadata_position nf) (new_metadata bs) (file-read bs h s).metadata

  pub metadata-same : (metadata_position bs ≡ 0 → ⊥) → SameMetadata bs (metadata_position bs) nf (metadata_position nf)
  metadata-same some = rw (metadata-at some) (metadata-read bs h s some)

  -- ---- attachments

  pub attachments-named : eqb (attachment_directory_position bs) 0 ≡ eqb (attachment_directory_position nf) 0
  attachments-named =
      both-named (attachment_directory_position bs) (attachment_directory_position nf) (new_attachment_directory bs)
      (file-read bs h s).attachments (attachments-some bs)

  module _ (some : attachment_directory_position bs ≡ 0 → ⊥) where
    pub attachments-at : attachment_directory_position nf ≡ new_attachment_directory bs
    attachments-at = if-named (attachment_directory_position bs) (attachment_directory_position nf) (new_attachment_directory bs) (file-read bs h s).attachments some

    pub all-counted : (k : ℕ) → k < attachment_entry_count bs (attachment_directory_position bs) → k < attachment_count bs
    unfolding attachment_count
    all-counted k l = rw (ne_eqb (attachment_directory_position bs) 0 some) l

    pub attachments-same : SameAttachments bs (attachment_directory_position bs) nf (attachment_directory_position nf)
    attachments-same =
        rw attachments-at
        (record {
          count = (attachments-read bs h s some).count;
          entry = λ k l. (attachment-entry-read bs h s k (all-counted k l)).same;
          attachment = λ k l. rw (attachment-entry-read bs h s k (all-counted k l)).position (attachment-read bs h s k (all-counted k l)).same;
        })

-- ---- of a scan

module _ (sc : Scan) (h : Kept sc.file) (s : length (repacked sc.file) ≤ 2 ^ 40) where
  abbrev bs : List ℕ
  bs = sc.file

  pub positions : Positions sc.file
  positions =
      record {
        directory = (file-read bs h s).directory;
        block = λ k l. (entry_read bs h s k l).position;
        metadata = (file-read bs h s).metadata;
        attachment_directory = (file-read bs h s).attachments;
        attachment = λ k l. rw (attachments-at bs h s (counted bs k l).named) (attachment-entry-read bs h s k l).position;
      }

  -- once both are accepted, they say the same
  pub same-scans : verdict sc ≡ Accepted → verdict (repacked_scan sc) ≡ Accepted → SameScans sc (repacked_scan sc)
  same-scans old new =
      record {
        release = refl;
        accepted = old;
        accepted-too = new;
        version = (file-read bs h s).version;
        guids = (file-read bs h s).guids;
        count = count-read bs h s;
        entry = λ k l. (entry_read bs h s k l).same;
        block = block_same bs h s;
        metadata-named = metadata-named bs h s;
        metadata = metadata-same bs h s;
        attachments-named = attachments-named bs h s;
        attachments = attachments-same bs h s;
      }
