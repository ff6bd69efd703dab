-- What an accepted file's new one holds at most, so that no sum of the code wraps. Assumes nothing.
use Prim.Native.Nat.{ℕ, zero, suc, ◌+◌, ◌*◌, ◌^◌, ◌≤◌, ◌<◌}
use mathlib.Core.Path.{◌≡◌}
use mathlib.Core.List.{List}
use native.Mathlib.Omega.{arith}
use lib.ListN.{length}
use lib.Dec.{eqb}
use borrow.Author.Tests.{ltb-false, eqb-false, ne_eqb}
use Rattle.format.specs.Scan.{scan_of}
use Rattle.format.specs.File.{metadata_position, attachment_directory_position}
use Rattle.format.specs.Entry.{file_position}
use Rattle.format.specs.SubBlock.{metadata_place, pixels_place, attachment_place}
use Rattle.format.specs.Directory.{tile_count, entry_place}
use Rattle.format.specs.Attachments.{attachment_entry, attachment_position, attachment_entry_count, attachment_count, attachment_directory_bad, attachments_rows, attachment_directory_rows}
use Rattle.format.specs.Rules.{AcceptedFile}
use Rattle.format.proofs.Below.{by_bool, none}
use Rattle.format.proofs.Firsts.{first-passed}
use Rattle.format.proofs.Acceptance.{verdict-parts}
use Rattle.subblocks.specs.Judged.{Listed, Filled}
use Rattle.subblocks.proofs.PartLaws.{filled_in}
use Rattle.judge.proofs.AcceptedFile.{tiled, tiled-file}
use Rattle.pack.specs.Pack.{segment_size}
use Rattle.pack.proofs.Sizes.{size_is, allocated-near}
use Rattle.repacked.specs.Contents.{parts_size}
use Rattle.repacked.specs.NewFile.{if_named, entry_size, entries_size, directory_size, sub_block_size, metadata_content_size, attachment_directory_size, attachment_content_size}
use Rattle.repacked.specs.NewFile.{new_directory, new_block, new_metadata, new_attachment_directory, new_attachment}
use Rattle.repacked.proofs.Lengths.{kept}

pub size-most : (n : ℕ) → segment_size n ≤ n + 64
size-most n = omega (arith, size_is n, allocated-near n)

-- what is present where it is named, and 0 where it is not
named-most : (q x n : ℕ) → ((q ≡ 0 → ⊥) → x ≤ n) → if_named q x 0 ≤ n
named-most q x n h =
    by_bool (eqb q 0) (λ e. rw e (omega arith)) (λ e. rw e (h (eqb-false q 0 e)))

-- ---- an entry and its sub-block

pub entry-most : (bs : List ℕ) (e : ℕ) → Listed bs e → entry_size bs e ≤ 352
unfolding entry_size
entry-most bs e l = omega (arith, l.few)

pub block_in : (bs : List ℕ) (e q : ℕ) → Filled bs e bs q → q + 32 + sub_block_size bs e q ≤ length bs
unfolding sub_block_size parts_size metadata_place pixels_place attachment_place
block_in bs e q f = omega (arith, (filled_in bs e bs q f).attachment)

-- ---- an accepted file

-- where its attachment k stands
abbrev pub attachment_at : List ℕ → ℕ → ℕ
attachment_at bs k = attachment_position bs (attachment_entry (attachment_directory_position bs) k)

module _ (bs : List ℕ) (a : AcceptedFile bs) where
  pub accepted-small : length bs ≤ 2 ^ 40
  accepted-small = (tiled-file bs a).small

  pub tiles-few : tile_count bs ≤ 4096
  tiles-few = (tiled-file bs a).few

  pub filled_at : (k : ℕ) → k < tile_count bs → Filled bs (entry_place bs k) bs (file_position bs (entry_place bs k))
  filled_at k l = ((tiled (scan_of bs a.release) a.accepted).tile k l).filled

  pub attachments-few : attachment_count bs ≤ 4096
  unfolding attachment_count attachments_rows attachment_directory_rows attachment_directory_bad
  attachments-few =
      named-most (attachment_directory_position bs) (attachment_entry_count bs (attachment_directory_position bs)) 4096
      (λ some.
      let t = attachment_directory_position bs in
      let rows = rw (ne_eqb t 0 some) at (verdict-parts (scan_of bs a.release) a.accepted).attachments in
      ltb-false 4096 (attachment_entry_count bs t) (none _ (first-passed (attachment_directory_bad bs t) _ _ rows).0 2))

  -- ---- contents

  pub entries-most : (k : ℕ) → k ≤ tile_count bs → entries_size bs k ≤ 352 * k
  unfolding entries_size
  entries-most zero h = omega arith
  entries-most (suc k) h = omega (arith, entries-most k (omega arith), entry-most bs (entry_place bs k) ((tiled-file bs a).listed k (omega arith)))

  pub directory-most : directory_size bs ≤ 1441920
  unfolding directory_size
  directory-most = omega (arith, entries-most (tile_count bs) (omega arith), tiles-few)

  pub block-most : (k : ℕ) → k < tile_count bs → sub_block_size bs (entry_place bs k) (file_position bs (entry_place bs k)) ≤ 2 ^ 40
  block-most k l = omega (arith, block_in bs (entry_place bs k) (file_position bs (entry_place bs k)) (filled_at k l), accepted-small)

  pub metadata-most : (metadata_position bs ≡ 0 → ⊥) → metadata_content_size bs (metadata_position bs) ≤ 2 ^ 40
  unfolding metadata_content_size
  metadata-most some = omega (arith, (kept bs a).metadata some, accepted-small)

  pub attachment-directory-most : attachment_directory_size (attachment_count bs) ≤ 2 ^ 40
  unfolding attachment_directory_size
  attachment-directory-most = omega (arith, attachments-few)

  pub attachment-most : (k : ℕ) → k < attachment_count bs → attachment_content_size bs (attachment_at bs k) ≤ 2 ^ 40
  unfolding attachment_content_size
  attachment-most k l = omega (arith, (kept bs a).attachment k l, accepted-small)

  -- ---- places

  pub new-block-most : (k : ℕ) → k ≤ tile_count bs → new_block bs k ≤ 2 ^ 21 + 2 ^ 41 * k
  unfolding new_block new_directory
  new-block-most zero h = omega (arith, size-most 512, size-most (directory_size bs), directory-most)
  new-block-most (suc k) h =
      let m = sub_block_size bs (entry_place bs k) (file_position bs (entry_place bs k)) in
      omega (arith, new-block-most k (omega arith), size-most m, block-most k (omega arith))

  pub new-metadata-most : new_metadata bs ≤ 2 ^ 54
  unfolding new_metadata
  new-metadata-most = omega (arith, new-block-most (tile_count bs) (omega arith), tiles-few)

  pub new-directory-most : new_attachment_directory bs ≤ 2 ^ 54 + 2 ^ 41
  unfolding new_attachment_directory
  new-directory-most =
      let m = metadata_content_size bs (metadata_position bs) in
      omega (arith, new-metadata-most, named-most (metadata_position bs) (segment_size m) (2 ^ 41) (λ some. omega (arith, size-most m, metadata-most some)))

  pub new-attachment-most : (k : ℕ) → k ≤ attachment_count bs → new_attachment bs k ≤ 2 ^ 55 + 2 ^ 41 * k
  unfolding new_attachment
  new-attachment-most zero h =
      let m = attachment_directory_size (attachment_count bs) in
      omega (arith, new-directory-most, named-most (attachment_directory_position bs) (segment_size m) (2 ^ 41) (λ some. omega (arith, size-most m, attachment-directory-most)))
  new-attachment-most (suc k) h =
      let m = attachment_content_size bs (attachment_at bs k) in
      omega (arith, new-attachment-most k (omega arith), size-most m, attachment-most k (omega arith))
