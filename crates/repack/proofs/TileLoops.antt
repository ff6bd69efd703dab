-- Loops that put what the n tiles have, one behind the other: the entries, and the sub-blocks. Of k tiles it is put, and the next entry is at e.
-- Assumes nothing.
use Prim.Native.Nat.{ℕ, ◌+◌, ◌^◌, ◌≤◌, ◌<◌}
use mathlib.Core.Path.{◌≡◌, refl, sym, ap, ◌∙◌}
use mathlib.Core.List.{List}
use native.Mathlib.Numerals.{add-one}
use native.Mathlib.Omega.{arith}
use lib.ListN.{length}
use mir.Syntax.{w64}
use mir.Val.{Fits}
use Rattle.format.specs.Names.{name_sub_block}
use Rattle.format.specs.Entry.{file_position, next_entry}
use Rattle.format.specs.Directory.{tile_count, entry_place}
use Rattle.format.specs.Rules.{AcceptedFile}
use Rattle.pack.specs.Pack.{segment_size, segment_bytes, packed, each, joined}
use Rattle.pack.specs.Put.{put}
use Rattle.pack.proofs.Packed.{segment-length}
use Rattle.pack.proofs.Puts.{Puts, put-length, put-none, puts_first, puts-next}
use Rattle.repacked.specs.Contents.{moved_entry, sub_block_content}
use Rattle.repacked.specs.NewFile.{entry_size, entries_size, sub_block_size, new_block, new_entry, block_segment}
use Rattle.repacked.proofs.Lengths.{kept, entry_length, entries-length, block-content}
use Rattle.repacked.proofs.Places.{block-name}
use Rattle.repack.proofs.Sums.{Adding, entry_listed, entries-more, blocks_start, blocks_more, adding-next}
use Rattle.repack.proofs.PackedPuts.{each_none, each_next, block-behind, rises, block-rises}

entries-rise : (bs : List ℕ) (k n : ℕ) → k ≤ n → entries_size bs k ≤ entries_size bs n
unfolding entries_size
entries-rise bs = rises (entries_size bs) (λ k. omega arith)

-- ---- what is put leaves the buffer's length

puts-same : (u v xs : List ℕ) (p n : ℕ) → Puts u p v n xs → p + n ≤ length u → length v ≡ length u
puts-same u v xs p n b h = ap length b.is ∙ put-length u xs p (omega (arith, b.size))

-- ---- the entries, from p on; the next is to be put at `at`, and its sub-block is to stand at x

pub record EntriesPut (bs u : List ℕ) (p n : ℕ) (v : List ℕ) (e at x k : ℕ) : Type 0 where
  pub blocks : Adding bs (new_block bs) n e x k
  pub place : at ≡ p + entries_size bs k
  pub same : length v ≡ length u
  pub is : v ≡ put u p (joined k (new_entry bs))

pub entries-put-start : (bs u : List ℕ) (p n e x : ℕ) → e ≡ entry_place bs 0 → x ≡ new_block bs 0 → EntriesPut bs u p n u e p x 0
unfolding entries_size joined
entries-put-start bs u p n e x h f = record { blocks = blocks_start bs n e h x f; place = omega arith; same = refl; is = sym (put-none u p) }

module _ (bs u v : List ℕ) (p n e at x k : ℕ) (w : EntriesPut bs u p n v e at x k) where
  module _ (a : AcceptedFile bs) (c : n ≡ tile_count bs) (l : k < n) (h : p + entries_size bs n ≤ length u) where
    entry-end : at + entry_size bs e ≡ p + entries_size bs (k + 1)
    entry-end = omega (arith, w.place, entries-more bs a n e k w.blocks.at c l (entry_size bs e) refl)

    pub entry-room : at + entry_size bs e ≤ length v
    entry-room = omega (arith, entry-end, entries-rise bs (k + 1) n (omega arith), w.same)

    pub entry-place-fits : (r : ℕ) → r ≡ entry_size bs e → length u < 2 ^ 64 → Fits w64 (at + r)
    entry-place-fits r f g = omega (arith, entry-room, w.same)

    -- the entries and the next one
    puts-entry : (y : List ℕ) → y ≡ put v at (moved_entry bs e x) → Puts u p y (entries_size bs k + entry_size bs e) (joined (k + 1) (new_entry bs))
    unfolding joined new_entry
    puts-entry y f =
        let s = entries-length bs k (λ i j. (kept bs a).entry i (omega arith)) in
        let g = entry_length bs e x (entry_listed bs a n e k w.blocks.at c l).entry in
        rw (add-one k, ← w.blocks.at.place, ← w.blocks.sum)
        (puts-next (puts_first v _ (entries_size bs k) w.is s) y (moved_entry bs e x) at (entry_size bs e) f g w.place
        (omega (arith, entries-rise bs k n (omega arith))))

    pub entries-put-next : (y : List ℕ) (z q m r i : ℕ) → y ≡ put v at (moved_entry bs e x) → z ≡ entry_size bs e → q ≡ file_position bs e
        → m ≡ sub_block_size bs e q → r ≡ segment_size m → i ≡ next_entry bs e → EntriesPut bs u p n y i (at + z) (x + r) (k + 1)
    entries-put-next y z q m r i f g fq fm fr fi =
        let b = puts-entry y f in
        record {
          blocks = adding-next bs (new_block bs) n e x k w.blocks i r l fi (blocks_more bs a n e k w.blocks.at c l q m fq fm r fr);
          place = omega (arith, entry-end);
          same = puts-same u y _ p _ b (omega (arith, entry-room, w.place, w.same));
          is = b.is;
        }

  pub entries-put-end : n ≤ k → v ≡ put u p (joined n (new_entry bs))
  entries-put-end h = let f : k ≡ n = omega (arith, w.blocks.at.count) in rw f at w.is

-- ---- the sub-blocks, from p on, where the first stands; the next is to stand at x

pub record BlocksPut (bs u : List ℕ) (p n : ℕ) (v : List ℕ) (e x k : ℕ) : Type 0 where
  pub blocks : Adding bs (new_block bs) n e x k
  pub same : length v ≡ length u
  pub is : v ≡ put u p (packed (each k (block_segment bs)))

module _ (bs u : List ℕ) (p n : ℕ) (b : p ≡ new_block bs 0) where
  pub blocks-put-start : (e : ℕ) → e ≡ entry_place bs 0 → BlocksPut bs u p n u e p 0
  blocks-put-start e h = record { blocks = blocks_start bs n e h p b; same = refl; is = each_none (block_segment bs) u p }

  module _ (v : List ℕ) (e x k : ℕ) (w : BlocksPut bs u p n v e x k) where
    module _ (a : AcceptedFile bs) (c : n ≡ tile_count bs) (l : k < n) (h : new_block bs n ≤ length u) (q : ℕ) (f : q ≡ file_position bs e) where
      block-end : x + segment_size (sub_block_size bs e q) ≡ new_block bs (k + 1)
      block-end = omega (arith, w.blocks.sum, blocks_more bs a n e k w.blocks.at c l q (sub_block_size bs e q) f refl (segment_size (sub_block_size bs e q)) refl)

      pub block_room : x + segment_size (sub_block_size bs e q) ≤ length v
      block_room = omega (arith, block-end, block-rises bs (k + 1) n (omega arith), w.same)

      module _ (y : List ℕ) (g : y ≡ put v x (segment_bytes (record { name = name_sub_block; content = sub_block_content bs e q x }))) where
        -- it is the segment of entry k
        block-is : y ≡ put v x (segment_bytes (block_segment bs k))
        unfolding block_segment
        block-is = g ∙ rw (f, w.blocks.at.place, w.blocks.sum)

        block_size : length (segment_bytes (block_segment bs k)) ≡ segment_size (sub_block_size bs e q)
        block_size =
            segment-length (block_segment bs k) (block-name bs k) ∙ ap segment_size (block-content bs (kept bs a) k (omega arith))
            ∙ rw (f, w.blocks.at.place)

        pub blocks-put-next : (m r i : ℕ) → m ≡ sub_block_size bs e q → r ≡ segment_size m → i ≡ next_entry bs e → BlocksPut bs u p n y i (x + r) (k + 1)
        blocks-put-next m r i fm fr fi =
            let t = block_room in
            record {
              blocks = adding-next bs (new_block bs) n e x k w.blocks i r l fi (blocks_more bs a n e k w.blocks.at c l q m f fm r fr);
              same = ap length block-is ∙ put-length v (segment_bytes (block_segment bs k)) x (omega (arith, block_size)) ∙ w.same;
              is =
                  each_next (block_segment bs) u v y p x k (omega (arith, w.same))
                  (w.blocks.sum ∙ block-behind bs (kept bs a) k (omega arith) ∙ rw b) w.is block-is;
            }

    pub blocks-put-end : n ≤ k → v ≡ put u p (packed (each n (block_segment bs)))
    blocks-put-end h = let f : k ≡ n = omega (arith, w.blocks.at.count) in rw f at w.is
