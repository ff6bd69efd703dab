-- The new file depends on nothing that a scan does not say: scans that say the same have the same new file, and a repack refuses them alike. Assumes
-- nothing.
use Prim.Native.Nat.{ℕ, zero, suc, ◌≤◌, ◌<◌}
use mathlib.Core.Path.{◌≡◌, refl, sym, ap, ◌∙◌}
use mathlib.Core.List.{List, [], ◌∷◌}
use native.Mathlib.Omega.{arith}
use lib.Dec.{eqb}
use borrow.Author.Tests.{eqb-false}
use Rattle.format.specs.Bytes.{part_of}
use Rattle.format.specs.Scan.{Scan}
use Rattle.format.specs.File.{metadata_position, attachment_directory_position}
use Rattle.format.specs.SubBlock.{metadata_place}
use Rattle.format.specs.Directory.{tile_count, entry_place}
use Rattle.format.specs.Attachments.{attachment_count}
use Rattle.format.specs.Rules.{checks, verdict}
use Rattle.format.proofs.Below.{by_bool}
use Rattle.format.proofs.Firsts.{first-pass}
use Rattle.equivalent.specs.Same.{SameEntry, SameBlock, SameMetadata, SameAttachmentEntry, SameAttachment, SameScans, attachment_entry_of}
use Rattle.equivalent.proofs.Entries as Entries
use Rattle.equivalent.proofs.Blocks as Blocks
use Rattle.equivalent.proofs.Annexes as Annexes
use Rattle.equivalent.proofs.Records.{tiles-same, attachments-same}
use Rattle.pack.specs.Pack.{segment_size}
use Rattle.pack.proofs.Joined.{each_same, joined_same}
use Rattle.repacked.specs.Contents.{file_content, moved_entry, directory_content, parts_size, sub_block_content, metadata_content}
use Rattle.repacked.specs.Contents.{moved_attachment_entry, attachment_directory_content, attachment_content}
use Rattle.repacked.specs.NewFile.{if_named, entry_block, entry_attachment, entry_size, entries_size, directory_size, sub_block_size}
use Rattle.repacked.specs.NewFile.{metadata_content_size, attachment_directory_size, attachment_content_size}
use Rattle.repacked.specs.NewFile.{new_block, new_metadata, new_attachment_directory, new_attachment, new_entry, new_attachment_entry}
use Rattle.repacked.specs.NewFile.{file_segment, directory_segment, block_segment, metadata_segment, attachment_directory_segment, attachment_segment}
use Rattle.repacked.specs.NewFile.{annex_segments, new_segments, repacked}
use Rattle.repacked.specs.Refusals.{too_large, size_verdict, repack_verdict}
use Rattle.repacked.specs.Claims.{OnlySaid}
use Rattle.repacked.proofs.Lengths.{counted}

-- ---- contents, wherever they stood

-- the entries at e and at f
module _ (ds : List ℕ) (e : ℕ) (bs : List ℕ) (f : ℕ) (s : SameEntry ds e bs f) where
  entry-size-same : entry_size ds e ≡ entry_size bs f
  unfolding entry_size
  entry-size-same = rw (Entries.count_same s)

  entry-same : (p : ℕ) → moved_entry ds e p ≡ moved_entry bs f p
  unfolding moved_entry
  entry-same p = rw (s.front, s.middle, s.rest, Entries.count_same s)

  -- their sub-blocks at q and at p
  module _ (q p : ℕ) (b : SameBlock ds e ds q bs f bs p) where
    parts-size-same : parts_size ds q ≡ parts_size bs p
    unfolding parts_size
    parts-size-same = rw (Blocks.metadata-size-same b, Blocks.data-size-same b, Blocks.attachment-size-same b)

    block-size-same : sub_block_size ds e q ≡ sub_block_size bs f p
    unfolding sub_block_size
    block-size-same = rw (Blocks.fixed_same s, parts-size-same)

    parts_same : part_of ds (metadata_place ds e q) (parts_size ds q) ≡ part_of bs (metadata_place bs f p) (parts_size bs p)
    unfolding parts_size
    parts_same = b.parts ∙ ap (part_of bs (metadata_place bs f p)) parts-size-same

    block_same : (x : ℕ) → sub_block_content ds e q x ≡ sub_block_content bs f p x
    unfolding sub_block_content
    block_same x = rw (b.sizes, entry-same x, Entries.count_same s, parts_same)

-- the metadata segments at m and at n
module _ (ds : List ℕ) (m : ℕ) (bs : List ℕ) (n : ℕ) (s : SameMetadata ds m bs n) where
  metadata-size-same : metadata_content_size ds m ≡ metadata_content_size bs n
  unfolding metadata_content_size
  metadata-size-same = rw (Annexes.xml-size-same s, Annexes.xml-attachment-size-same s)

  metadata-same : metadata_content ds m ≡ metadata_content bs n
  unfolding metadata_content
  metadata-same = rw (s.sizes, s.parts, Annexes.xml-size-same s, Annexes.xml-attachment-size-same s)

-- the attachment entries at e and at f
attachment-entry-same : (ds : List ℕ) (e : ℕ) (bs : List ℕ) (f : ℕ) → SameAttachmentEntry ds e bs f → (x : ℕ)
    → moved_attachment_entry ds e x ≡ moved_attachment_entry bs f x
unfolding moved_attachment_entry
attachment-entry-same ds e bs f s x = rw (s.mark, s.rest)

-- the attachments at q and at p
module _ (ds : List ℕ) (q : ℕ) (bs : List ℕ) (p : ℕ) (s : SameAttachment ds q bs p) where
  attachment-size-same : attachment_content_size ds q ≡ attachment_content_size bs p
  unfolding attachment_content_size
  attachment-size-same = rw (Annexes.content-size-same s)

  attachment-same : (e f : ℕ) → SameAttachmentEntry ds e bs f → (x : ℕ) → attachment_content ds e q x ≡ attachment_content bs f p x
  unfolding attachment_content
  attachment-same e f t x = rw (s.size, attachment-entry-same ds e bs f t x, s.content, Annexes.content-size-same s)

-- what need not be there
named-same : {A : Type 0} (q p : ℕ) (x y z : A) → eqb q 0 ≡ eqb p 0 → ((q ≡ 0 → ⊥) → x ≡ y) → if_named q x z ≡ if_named p y z
named-same q p x y z e h = rw (← e) (by_bool (eqb q 0) (λ t. rw t) (λ t. rw t (h (eqb-false q 0 t))))

-- ---- the files of two scans that say the same

module _ (a b : Scan) (s : SameScans a b) where
  abbrev ds : List ℕ
  ds = a.file

  abbrev bs : List ℕ
  bs = b.file

  -- what a metadata segment makes, and what an attachment directory makes
  metadata-if : {A : Type 0} (x y z : A) → ((metadata_position ds ≡ 0 → ⊥) → x ≡ y) → if_named (metadata_position ds) x z ≡ if_named (metadata_position bs) y z
  metadata-if x y z = named-same (metadata_position ds) (metadata_position bs) x y z s.metadata-named

  attachments-if : {A : Type 0} (x y z : A) → ((attachment_directory_position ds ≡ 0 → ⊥) → x ≡ y)
      → if_named (attachment_directory_position ds) x z ≡ if_named (attachment_directory_position bs) y z
  attachments-if x y z = named-same (attachment_directory_position ds) (attachment_directory_position bs) x y z s.attachments-named

  -- ---- new places: the sub-blocks

  entries-size-same : (n : ℕ) → n ≤ tile_count ds → entries_size ds n ≡ entries_size bs n
  unfolding entries_size
  entries-size-same zero h = refl
  entries-size-same (suc n) h =
      rw (entries-size-same n (omega arith), entry-size-same ds (entry_place ds n) bs (entry_place bs n) (s.entry n (omega arith)))

  directory-size-same : directory_size ds ≡ directory_size bs
  unfolding directory_size
  directory-size-same = rw (entries-size-same (tile_count ds) (omega arith), tiles-same a b s)

  place_same : (n : ℕ) → n ≤ tile_count ds → new_block ds n ≡ new_block bs n
  unfolding new_block
  place_same zero h = rw directory-size-same
  place_same (suc n) h =
      rw (
        place_same n (omega arith),
        block-size-same ds (entry_place ds n) bs (entry_place bs n) (s.entry n (omega arith)) (entry_block ds n) (entry_block bs n) (s.block n (omega arith)),
      )

  new-entry-same : (n : ℕ) → n < tile_count ds → new_entry ds n ≡ new_entry bs n
  unfolding new_entry
  new-entry-same n h = rw (place_same n (omega arith)) (entry-same ds (entry_place ds n) bs (entry_place bs n) (s.entry n h) (new_block bs n))

  -- ---- the metadata segment, the attachment directory, the attachments

  metadata-place-same : new_metadata ds ≡ new_metadata bs
  unfolding new_metadata
  metadata-place-same = place_same (tile_count ds) (omega arith) ∙ ap (new_block bs) (tiles-same a b s)

  directory-place-same : new_attachment_directory ds ≡ new_attachment_directory bs
  unfolding new_attachment_directory
  directory-place-same =
      rw (metadata-place-same, metadata-if _ _ 0 (λ some. ap segment_size (metadata-size-same ds _ bs _ (s.metadata some))))

  attached-place-same : (n : ℕ) → n ≤ attachment_count ds → new_attachment ds n ≡ new_attachment bs n
  unfolding new_attachment
  attached-place-same zero h =
      rw (directory-place-same, attachments-if _ _ 0 (λ some. ap (λ n. segment_size (attachment_directory_size n)) (attachments-same a b s)))
  attached-place-same (suc n) h =
      let c = counted ds n (omega arith) in
      rw (
        attached-place-same n (omega arith),
        attachment-size-same ds (entry_attachment ds n) bs (entry_attachment bs n) ((s.attachments c.named).attachment n c.below),
      )

  new-attachment-entry-same : (n : ℕ) → n < attachment_count ds → new_attachment_entry ds n ≡ new_attachment_entry bs n
  unfolding new_attachment_entry
  new-attachment-entry-same n h =
      let c = counted ds n h in
      rw (attached-place-same n (omega arith))
      (attachment-entry-same ds (attachment_entry_of ds n) bs (attachment_entry_of bs n) ((s.attachments c.named).entry n c.below) (new_attachment bs n))

  -- ---- the segments

  file-segment-same : file_segment ds ≡ file_segment bs
  unfolding file_segment file_content
  file-segment-same =
      rw (s.version, s.guids, metadata-if _ _ 0 (λ some. metadata-place-same), attachments-if _ _ 0 (λ some. directory-place-same))

  directory-segment-same : directory_segment ds ≡ directory_segment bs
  unfolding directory_segment directory_content
  directory-segment-same = rw (s.count, joined_same (tile_count ds) (new_entry ds) (new_entry bs) new-entry-same, tiles-same a b s)

  block-segment-same : (n : ℕ) → n < tile_count ds → block_segment ds n ≡ block_segment bs n
  unfolding block_segment
  block-segment-same n h =
      rw (
        place_same n (omega arith),
        block_same ds (entry_place ds n) bs (entry_place bs n) (s.entry n h) (entry_block ds n) (entry_block bs n) (s.block n h) (new_block bs n),
      )

  metadata-segment-same : (metadata_position ds ≡ 0 → ⊥) → metadata_segment ds ≡ metadata_segment bs
  unfolding metadata_segment
  metadata-segment-same some = rw (metadata-same ds (metadata_position ds) bs (metadata_position bs) (s.metadata some))

  attachment-directory-segment-same : (attachment_directory_position ds ≡ 0 → ⊥) → attachment_directory_segment ds ≡ attachment_directory_segment bs
  unfolding attachment_directory_segment attachment_directory_content
  attachment-directory-segment-same some =
      rw (
        (s.attachments some).count,
        joined_same (attachment_count ds) (new_attachment_entry ds) (new_attachment_entry bs) new-attachment-entry-same,
        attachments-same a b s,
      )

  attachment-segment-same : (n : ℕ) → n < attachment_count ds → attachment_segment ds n ≡ attachment_segment bs n
  unfolding attachment_segment
  attachment-segment-same n h =
      let c = counted ds n h in
      rw (
        attached-place-same n (omega arith),
        attachment-same ds (entry_attachment ds n) bs (entry_attachment bs n) ((s.attachments c.named).attachment n c.below)
            (attachment_entry_of ds n) (attachment_entry_of bs n) ((s.attachments c.named).entry n c.below) (new_attachment bs n),
      )

  annex-same : annex_segments ds ≡ annex_segments bs
  unfolding annex_segments
  annex-same =
      rw (
        metadata-if _ _ [] (λ some. ap (λ x. x ∷ []) (metadata-segment-same some)),
        attachments-if _ _ [] (λ some. ap (λ x. x ∷ []) (attachment-directory-segment-same some)),
        each_same (attachment_count ds) (attachment_segment ds) (attachment_segment bs) attachment-segment-same,
        attachments-same a b s,
      )

  segments-same : new_segments ds ≡ new_segments bs
  unfolding new_segments
  segments-same =
      rw (
        file-segment-same,
        directory-segment-same,
        each_same (tile_count ds) (block_segment ds) (block_segment bs) block-segment-same,
        tiles-same a b s,
        annex-same,
      )

-- ---- the new file, and the refusals

pub only-said : OnlySaid
unfolding repacked
only-said a b s = rw (segments-same a b s)

module _ (a b : Scan) (s : SameScans a b) where
  large-same : too_large a.file ≡ too_large b.file
  unfolding too_large
  large-same = rw (segments-same a b s, only-said a b s)

  pub size-refusal-same : size_verdict a ≡ size_verdict b
  unfolding size_verdict verdict
  size-refusal-same = first-pass (checks a) _ s.accepted ∙ rw large-same (sym (first-pass (checks b) _ s.accepted-too))

  pub refusal-same : (out : ℕ) → repack_verdict a out ≡ repack_verdict b out
  unfolding repack_verdict verdict
  refusal-same out =
      first-pass (checks a) _ s.accepted ∙ rw (large-same, only-said a b s) (sym (first-pass (checks b) _ s.accepted-too))
