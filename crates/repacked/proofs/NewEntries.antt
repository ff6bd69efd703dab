-- An entry of the new file and its sub-block are well formed where those of the old one are. Assumes nothing.
use Prim.Native.Nat.{ℕ, zero, suc, ◌+◌, ◌*◌, ◌^◌, ◌≤◌, ◌<◌}
use mathlib.Core.Path.{◌≡◌, sym, ◌∙◌}
use mathlib.Core.List.{List}
use mathlib.Core.Bool.{false}
use native.Mathlib.Omega.{arith}
use lib.ListN.{length}
use borrow.Author.Tests.{le-ltb, eq-eqb, eqb-true, not-false}
use Rattle.format.specs.Bytes.{any_of, negative32, negative64}
use Rattle.format.specs.Names.{name_sub_block}
use Rattle.format.specs.Scan.{Scan}
use Rattle.format.specs.Segments.{room, walked}
use Rattle.format.specs.File.{directory_position}
use Rattle.format.specs.Entry.{dimension_count, file_position, next_entry, dimensions_bad}
use Rattle.format.specs.SubBlock.{metadata_size, attachment_size, data_size, fixed_part, copy_bad, sub_block_bad, pixels_size, contents_bad, attachment_place}
use Rattle.format.specs.Directory.{room_end, tile_count, entry_place}
use Rattle.format.specs.WellFormed.{Names, Entry, DeclaresChunks, ChunksFill}
use Rattle.format.specs.declared.Release.{Release}
use Rattle.format.proofs.Below.{none, last_or}
use Rattle.equivalent.specs.Same.{Same, SameEntry, SameBlock}
use Rattle.equivalent.proofs.Reading.{same-inside, same-is-range}
use Rattle.equivalent.proofs.Entries.{type-same, part_same, compression-same, count_same, head-same, dimensions-same, pixels-size-same}
use Rattle.equivalent.proofs.Blocks.{metadata-size-same, attachment-size-same, data-size-same, metadata-same, attachment-same}
use Rattle.equivalent.proofs.Chunks.{chunks-moved}
use Rattle.pack.proofs.Tiling.{Tiles}
use Rattle.repacked.specs.Contents.{parts_size, moved_entry}
use Rattle.repacked.specs.NewFile.{entry_block, entry_size, entries_size, directory_size, sub_block_size, new_directory, new_block, new_entry}
use Rattle.repacked.specs.NewFile.{block_segment, directory_segment, new_segments, repacked, repacked_scan}
use Rattle.repacked.proofs.Lengths.{Kept, entry_length, entry-size-is, directory-content, block-content}
use Rattle.repacked.proofs.Places.{directory-placed, block-placed}
use Rattle.repacked.proofs.Listed.{placed-names, placed-room}
use Rattle.repacked.proofs.Reading.{tiles-short, file-read, entry_at, entry-stands, entry_read, block_read}
use Rattle.repacked.proofs.Sameness.{block-moved}

-- ---- the sub-block's copy of an entry that has n dimensions: the same bytes as the entry's

copy-right : (fs : List ℕ) (f p n : ℕ) → dimension_count fs f ≡ n → Same (32 + 20 * n) fs f fs (p + 48) → copy_bad fs f fs p ≡ false
unfolding copy_bad any_of
copy-right fs f p n e s =
    let m = 32 + 20 * n in
    let front = same-is-range 23 fs f fs (p + 48) (same-inside m fs f fs (p + 48) s 0 23 f (p + 48) (omega arith) (omega arith) (omega arith)) in
    let rest =
    same-is-range (4 + 20 * n) fs (f + 28) fs (p + 76)
    (same-inside m fs f fs (p + 48) s 28 (4 + 20 * n) (f + 28) (p + 76) (omega arith) (omega arith) (omega arith)) in
    rw (e, front, rest)

block-right : (fs : List ℕ) (f p : ℕ) → fixed_part (dimension_count fs f) ≤ room fs p → copy_bad fs f fs p ≡ false → sub_block_bad fs f fs p ≡ false
unfolding sub_block_bad any_of
block-right fs f p r c = rw (le-ltb (room fs p) (fixed_part (dimension_count fs f)) r, c)

-- ---- a sub-block that is the same as one that is right, in a room that holds it

-- what is known of the sizes of one that is right
record Sized (ds : List ℕ) (e q : ℕ) : Type 0 where
  metadata : negative32 (metadata_size ds q) ≡ false
  attachment : negative32 (attachment_size ds q) ≡ false
  pixels : negative64 (data_size ds q) ≡ false
  right : data_size ds q ≡ pixels_size ds e

sized : (ds : List ℕ) (e q : ℕ) → contents_bad ds e ds q ≡ false → Sized ds e q
unfolding contents_bad
sized ds e q c = record { metadata = none _ c 0; attachment = none _ c 1; pixels = none _ c 2; right = eqb-true _ _ (not-false _ (none _ c 4)) }

contents-right : (fs : List ℕ) (f p : ℕ) → Sized fs f p
    → fixed_part (dimension_count fs f) + metadata_size fs p + data_size fs p + attachment_size fs p ≤ room fs p → contents_bad fs f fs p ≡ false
unfolding contents_bad any_of
contents-right fs f p s r =
    rw (
      s.metadata,
      s.attachment,
      s.pixels,
      le-ltb (room fs p) (fixed_part (dimension_count fs f) + metadata_size fs p + data_size fs p + attachment_size fs p) r,
      eq-eqb (data_size fs p) (pixels_size fs f) s.right,
    )

sized-too : {ds : List ℕ} {e q : ℕ} {fs : List ℕ} {f p : ℕ} → SameEntry ds e fs f → SameBlock ds e ds q fs f fs p → dimensions_bad ds e ≡ false → Sized ds e q
    → Sized fs f p
sized-too s b d z =
    record {
      metadata = rw (← metadata-size-same b) z.metadata;
      attachment = rw (← attachment-size-same b) z.attachment;
      pixels = rw (← data-size-same b) z.pixels;
      right = sym (data-size-same b) ∙ z.right ∙ pixels-size-same s d;
    }

container-right : {ds : List ℕ} {e q : ℕ} {fs : List ℕ} {f p : ℕ} (r : Release) → SameBlock ds e ds q fs f fs p
    → (DeclaresChunks ds e ds q r → ChunksFill ds e ds q) → DeclaresChunks fs f fs p r → ChunksFill fs f fs p
container-right {ds} {e} {q} {fs} {f} {p} r b old d =
    let declared : DeclaresChunks ds e ds q r = (d.0, rw (metadata-same b, metadata-size-same b) d.1) in
    rw (← attachment-size-same b)
    (chunks-moved (attachment_size ds q) ds (attachment_place ds e ds q) fs (attachment_place fs f fs p) (attachment-same b) (old declared))

-- ---- the entries of a directory lie one behind the other

entries-more : (bs : List ℕ) (k n : ℕ) → k < n → entries_size bs k + entry_size bs (entry_place bs k) ≤ entries_size bs n
unfolding entries_size
entries-more bs k zero l = absurd (omega arith)
entries-more bs k (suc n) l =
    last_or (λ k. entries_size bs k + entry_size bs (entry_place bs k) ≤ entries_size bs (suc n)) l (omega arith)
    (λ m. omega (arith, entries-more bs k n m))

-- ---- entry k of the new file

module _ (bs : List ℕ) (h : Kept bs) (t : Tiles (new_segments bs)) where
  abbrev nf : List ℕ
  nf = repacked bs

  short : length nf ≤ 2 ^ 40
  short = tiles-short bs t

  -- the directory's room
  pub directory-room : room nf new_directory ≡ directory_size bs
  directory-room = placed-room bs t (directory_segment bs) new_directory (directory-placed bs h) ∙ directory-content bs h

  directory-end : room_end nf (directory_position nf) ≡ new_directory + 160 + entries_size bs (tile_count bs)
  unfolding room_end directory_size
  directory-end = rw (file-read bs h short).directory (omega (arith, directory-room))

  module _ (k : ℕ) (l : k < tile_count bs) where
    abbrev e : ℕ
    e = entry_place bs k

    abbrev q : ℕ
    q = entry_block bs k

    abbrev f : ℕ
    f = entry_place nf k

    abbrev p : ℕ
    p = new_block bs k

    same : SameEntry bs e nf f
    same = (entry_read bs h short k l).same

    block : SameBlock bs e bs q nf f nf p
    block = block-moved bs h short k l

    entry-fits : f + 32 + 20 * dimension_count nf f ≤ room_end nf (directory_position nf)
    entry-fits =
        omega (arith, entry_at bs h short k (omega arith), directory-end, entries-more bs k (tile_count bs) l, entry-size-is bs e, count_same same)

    next_fits : next_entry nf f ≤ room_end nf (directory_position nf)
    unfolding next_entry
    next_fits = entry-fits

    -- the directory's entry and the sub-block's copy are the same bytes
    copy-same : Same (32 + 20 * dimension_count bs e) nf f nf (p + 48)
    unfolding new_entry
    copy-same =
        let x = moved_entry bs e p in
        let n : length x ≡ 32 + 20 * dimension_count bs e = entry_length bs e p (h.entry k l) ∙ entry-size-is bs e in
        rw (← n) (entry-stands bs h short k l ∙ sym (block_read bs h short k l).copy)

    block_room : room nf p ≡ fixed_part (dimension_count nf f) + (metadata_size nf p + data_size nf p + attachment_size nf p)
    unfolding sub_block_size parts_size
    block_room =
        rw (← count_same same, ← metadata-size-same block, ← data-size-same block, ← attachment-size-same block)
        (placed-room bs t (block_segment bs k) p (block-placed bs h k l) ∙ block-content bs h k l)

    block-names : Names nf (walked nf) p name_sub_block
    unfolding block_segment
    block-names = placed-names bs t (block_segment bs k) p (block-placed bs h k l)

-- ---- of a scan

pub entry-right : (sc : Scan) → Kept sc.file → Tiles (new_segments sc.file) → (segments : List ℕ) (d k : ℕ) → k < tile_count sc.file
    → Entry sc segments d (entry_place sc.file k)
    → Entry (repacked_scan sc) (walked (repacked sc.file)) (directory_position (repacked sc.file)) (entry_place (repacked sc.file) k)
entry-right sc h t segments d k l w =
    let bs = sc.file in
    let nf = repacked bs in
    let e = entry_place bs k in
    let f = entry_place nf k in
    let p = new_block bs k in
    let s = same bs h t k l in
    let b = block bs h t k l in
    let room = block_room bs h t k l in
    let at : file_position nf f ≡ p = (entry_read bs h (short bs h t) k l).position in
    record {
      head_fits = omega (arith, entry-fits bs h t k l);
      head = sym (head-same s) ∙ w.head;
      fits = next_fits bs h t k l;
      dimensions = sym (dimensions-same s) ∙ w.dimensions;
      listed = λ z. w.listed (rw (type-same s) z);
      uncompressed = sym (compression-same s) ∙ w.uncompressed;
      part = sym (part_same s) ∙ w.part;
      names = rw at (block-names bs h t k l);
      block = rw at (block-right nf f p (omega arith) (copy-right nf f p (dimension_count bs e) (sym (count_same s)) (copy-same bs h t k l)));
      contents = rw at (contents-right nf f p (sized-too s b w.dimensions (sized bs e (entry_block bs k) w.contents)) (omega arith));
      container = rw at (container-right sc.release b w.container);
    }
