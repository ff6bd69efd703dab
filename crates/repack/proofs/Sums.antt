-- The sizes and places that the code adds up: what it may read for them, that no sum wraps, and what the sums are. Assumes nothing.
use Prim.Native.Nat.{ℕ, ◌+◌, ◌-◌, ◌^◌, ◌≤◌, ◌<◌}
use mathlib.Core.Path.{◌≡◌, refl, sym, ◌∙◌}
use mathlib.Core.List.{List}
use native.Mathlib.Numerals.{add-one}
use native.Mathlib.Omega.{arith}
use lib.ListN.{length}
use mir.Syntax.{w64}
use mir.Val.{Fits}
use borrow.Author.Tests.{eq-eqb, ne_eqb}
use Rattle.format.specs.File.{metadata_position, attachment_directory_position}
use Rattle.format.specs.Entry.{file_position, dimension_count, next_entry}
use Rattle.format.specs.SubBlock.{fixed_part, metadata_place, pixels_place, attachment_place}
use Rattle.format.specs.Directory.{tile_count, entry_place}
use Rattle.format.specs.Attachments.{xml_size, xml_attachment_size, attachment_count, attachment_entry, attachment_position, attachment_data_size}
use Rattle.format.specs.Records.{metadata_span, pixels_span, attachment_span}
use Rattle.format.specs.Rules.{AcceptedFile}
use Rattle.format.specs.declared.Span.{Span}
use Rattle.subblocks.specs.Judged.{Listed, Filled}
use Rattle.subblocks.proofs.PartLaws.{filled_in}
use Rattle.judge.proofs.AcceptedFile.{tiled-file}
use Rattle.judge.proofs.EntryLoop.{AtEntry, at-start, at_next}
use Rattle.pack.specs.Pack.{segment_size}
use Rattle.repacked.specs.Contents.{parts_size}
use Rattle.repacked.specs.NewFile.{if_named, entry_size, entries_size, directory_size, sub_block_size, metadata_content_size, attachment_directory_size, attachment_content_size}
use Rattle.repacked.specs.NewFile.{new_block, new_attachment}
use Rattle.repacked.proofs.Lengths.{kept}
use Rattle.repack.proofs.Bounds.{attachment_at, block_in, accepted-small, filled_at, attachments-few, entries-most}
use Rattle.repack.proofs.Bounds.{metadata-most, attachment-directory-most, attachment-most, new-block-most, new-attachment-most}

-- ---- x where q names a segment, and 0

pub named_none : (q x : ℕ) → q ≡ 0 → 0 ≡ if_named q x 0
named_none q x e = rw (eq-eqb q 0 e)

pub named_some : (q x : ℕ) → (q ≡ 0 → ⊥) → x ≡ if_named q x 0
named_some q x n = rw (ne_eqb q 0 n)

-- ---- the parts of a sub-block at q, whose entry is at e: their spans are m, d and a

module _ (bs : List ℕ) (e q : ℕ) (f : Filled bs e bs q) (m d a : Span) (i : m ≡ metadata_span bs e bs q) (j : d ≡ pixels_span bs e bs q)
    (k : a ≡ attachment_span bs e bs q) where
  pub parts-sum : m.length + d.length + a.length ≡ parts_size bs q
  unfolding metadata_span pixels_span attachment_span parts_size
  parts-sum = rw (i, j, k)

  parts-most : m.length + d.length + a.length ≤ length bs
  unfolding metadata_place pixels_place attachment_place parts_size
  parts-most = omega (arith, parts-sum, (filled_in bs e bs q f).attachment)

  module _ (h : length bs < 2 ^ 64) where
    pub parts-fit : Fits w64 (m.length + d.length + a.length)
    parts-fit = omega (arith, parts-most)

    pub two-fit : Fits w64 (m.length + d.length)
    two-fit = omega (arith, parts-most)

module _ (bs : List ℕ) (e q : ℕ) (f : Filled bs e bs q) (m : Span) (i : m ≡ metadata_span bs e bs q) where
  -- the metadata stand behind the fixed part
  fixed-end : m.start ≡ q + 32 + fixed_part (dimension_count bs e)
  unfolding metadata_span metadata_place
  fixed-end = rw i

  pub fixed_from : q + 32 ≤ m.start
  fixed_from = omega (arith, fixed-end)

  module _ (n : ℕ) (k : n ≡ parts_size bs q) where
    pub block-sum : m.start - q - 32 + n ≡ sub_block_size bs e q
    unfolding sub_block_size
    block-sum = omega (arith, fixed-end)

    pub block-fits : length bs < 2 ^ 64 → Fits w64 (m.start - q - 32 + n)
    block-fits h = omega (arith, block-sum, block_in bs e q f)

-- ---- a loop over the n entries: k are passed, the next is at e

module _ (bs : List ℕ) (a : AcceptedFile bs) (n e k : ℕ) (w : AtEntry bs n e k) (c : n ≡ tile_count bs) (l : k < n) where
  pub entry_listed : Listed bs e
  entry_listed = rw w.place ((tiled-file bs a).listed k (omega arith))

  pub entry-filled : (q : ℕ) → q ≡ file_position bs e → Filled bs e bs q
  entry-filled q f = rw (f, w.place) (filled_at bs a k (omega arith))

  -- the entry's size is r
  module _ (r : ℕ) (f : r ≡ entry_size bs e) where
    pub entries-more : entries_size bs (k + 1) ≡ entries_size bs k + r
    unfolding entries_size
    entries-more = rw (add-one k, f, w.place)

    pub entries_fit : (x : ℕ) → x ≡ entries_size bs k → Fits w64 (x + r)
    entries_fit x h = omega (arith, entries-more, entries-most bs a (k + 1) (omega arith), (tiled-file bs a).few)

  -- the content of its sub-block, at q, has m bytes, and the segment r
  module _ (q m : ℕ) (f : q ≡ file_position bs e) (g : m ≡ sub_block_size bs e q) where
    pub block-small : m ≤ 2 ^ 60
    block-small = omega (arith, block_in bs e q (entry-filled q f), accepted-small bs a)

    module _ (r : ℕ) (h : r ≡ segment_size m) where
      pub blocks_more : new_block bs (k + 1) ≡ new_block bs k + r
      unfolding new_block
      blocks_more = rw (add-one k, h, g, f, w.place)

      pub blocks-fit : (x : ℕ) → x ≡ new_block bs k → Fits w64 (x + r)
      blocks-fit x i = omega (arith, blocks_more, new-block-most bs a (k + 1) (omega arith), (tiled-file bs a).few)

-- x is f of k: what is added up
pub record Adding (bs : List ℕ) (f : ℕ → ℕ) (n e x k : ℕ) : Type 0 where
  pub at : AtEntry bs n e k
  pub sum : x ≡ f k

module _ (bs : List ℕ) (n e : ℕ) (h : e ≡ entry_place bs 0) where
  pub entries-start : Adding bs (entries_size bs) n e 0 0
  unfolding entries_size
  entries-start = record { at = at-start bs n e h; sum = refl }

  pub blocks_start : (x : ℕ) → x ≡ new_block bs 0 → Adding bs (new_block bs) n e x 0
  blocks_start x f = record { at = at-start bs n e h; sum = f }

module _ (bs : List ℕ) (f : ℕ → ℕ) (n e x k : ℕ) (w : Adding bs f n e x k) where
  pub adding-next : (q r : ℕ) → k < n → q ≡ next_entry bs e → f (k + 1) ≡ f k + r → Adding bs f n q (x + r) (k + 1)
  adding-next q r l g h = record { at = at_next bs n e k w.at q l g; sum = omega (arith, w.sum) }

  pub adding-end : n ≤ k → x ≡ f n
  adding-end h = let e : k ≡ n = omega (arith, w.at.count) in rw e at w.sum

-- ---- the directory

pub directory-fits : (bs : List ℕ) → AcceptedFile bs → (n r : ℕ) → n ≡ tile_count bs → r ≡ entries_size bs n → Fits w64 (128 + r)
directory-fits bs a n r c e = omega (arith, entries-most bs a n (omega arith), (tiled-file bs a).few)

pub directory-sum : (bs : List ℕ) (n r : ℕ) → n ≡ tile_count bs → r ≡ entries_size bs n → 128 + r ≡ directory_size bs
unfolding directory_size
directory-sum bs n r c e = rw (e, c)

-- ---- the metadata segment, at m

module _ (bs : List ℕ) (a : AcceptedFile bs) (m : ℕ) (e : m ≡ metadata_position bs) (h : m ≡ 0 → ⊥) where
  metadata-named : metadata_position bs ≡ 0 → ⊥
  metadata-named z = h (e ∙ z)

  pub metadata-in : m + 40 ≤ length bs
  metadata-in = omega (arith, (kept bs a).metadata metadata-named)

  pub metadata-small : (n : ℕ) → n ≡ metadata_content_size bs m → n ≤ 2 ^ 60
  metadata-small n f = let g : n ≡ metadata_content_size bs (metadata_position bs) = rw (← e) f in omega (arith, metadata-most bs a metadata-named)

  pub metadata-sum : (x y : ℕ) → x ≡ xml_size bs m → y ≡ xml_attachment_size bs m → 256 + (x + y) ≡ metadata_content_size bs m
  unfolding metadata_content_size
  metadata-sum x y f g = rw (f, g)

  pub metadata-room : (n r : ℕ) → n ≡ metadata_content_size bs m → r ≡ segment_size n
      → r ≡ if_named (metadata_position bs) (segment_size (metadata_content_size bs (metadata_position bs))) 0
  metadata-room n r f g = rw (ne_eqb (metadata_position bs) 0 metadata-named, ← e, ← f) g

-- no metadata segment
pub metadata-none : (bs : List ℕ) (m x : ℕ) → m ≡ metadata_position bs → m ≡ 0 → 0 ≡ if_named (metadata_position bs) x 0
metadata-none bs m x e z = named_none (metadata_position bs) x (sym e ∙ z)

-- ---- the attachment directory, with n entries

module _ (bs : List ℕ) (a : AcceptedFile bs) (n : ℕ) (c : n ≡ attachment_count bs) where
  pub attachments-most : n ≤ 4096
  attachments-most = omega (arith, attachments-few bs a)

  pub attachment-directory-small : (m : ℕ) → m ≡ attachment_directory_size n → m ≤ 2 ^ 60
  attachment-directory-small m e =
      let f : m ≡ attachment_directory_size (attachment_count bs) = rw (← c) e in
      omega (arith, attachment-directory-most bs a)

pub attachment-directory-room : (bs : List ℕ) (n t m r : ℕ) → t ≡ attachment_directory_position bs → (t ≡ 0 → ⊥) → m ≡ attachment_directory_size n → r ≡ segment_size m
    → r ≡ if_named (attachment_directory_position bs) (segment_size (attachment_directory_size n)) 0
attachment-directory-room bs n t m r e h f g = rw (ne_eqb (attachment_directory_position bs) 0 (λ z. h (e ∙ z)), ← f) g

pub attachment-directory-none : (bs : List ℕ) (t x : ℕ) → t ≡ attachment_directory_position bs → t ≡ 0 → 0 ≡ if_named (attachment_directory_position bs) x 0
attachment-directory-none bs t x e z = named_none (attachment_directory_position bs) x (sym e ∙ z)

-- ---- a loop over the n attachments: k are passed, the entry of the next is at e of the attachment directory, which is at t

module _ (bs : List ℕ) (a : AcceptedFile bs) (n t k : ℕ) (c : n ≡ attachment_count bs) (d : t ≡ attachment_directory_position bs) (l : k < n) where
  pub attachment-entry-fits : attachment_entry t k < 2 ^ 64
  attachment-entry-fits = rw d (omega (arith, (kept bs a).attachment-entry k (omega arith), accepted-small bs a))

  module _ (e : ℕ) (f : e ≡ attachment_entry t k) where
    pub attachment-entry-in : e + 128 ≤ length bs
    attachment-entry-in = rw (f, d) ((kept bs a).attachment-entry k (omega arith))

    -- the attachment is at q
    module _ (q : ℕ) (g : q ≡ attachment_position bs e) where
      pub attachment-in : q + 288 + attachment_data_size bs q ≤ length bs
      attachment-in = rw (g, f, d) ((kept bs a).attachment k (omega arith))

      pub attachment-size-in : q + 36 ≤ length bs
      attachment-size-in = omega (arith, attachment-in)

      -- its content has m bytes, and the segment r
      module _ (m : ℕ) (h : m ≡ attachment_content_size bs q) where
        attachment-is : m ≡ attachment_content_size bs (attachment_at bs k)
        attachment-is = rw (← d, ← f, ← g) h

        pub attachment-small : m ≤ 2 ^ 60
        attachment-small = omega (arith, attachment-is, attachment-most bs a k (omega arith))

        module _ (r : ℕ) (i : r ≡ segment_size m) where
          pub attachments-more : new_attachment bs (k + 1) ≡ new_attachment bs k + r
          unfolding new_attachment
          attachments-more = rw (add-one k, i, ← attachment-is)

          pub attachments-fit : (x : ℕ) → x ≡ new_attachment bs k → Fits w64 (x + r)
          attachments-fit x j = omega (arith, attachments-more, new-attachment-most bs a (k + 1) (omega arith), attachments-few bs a)

          pub attachments-next : (x : ℕ) → x ≡ new_attachment bs k → x + r ≡ new_attachment bs (k + 1)
          attachments-next x j = omega (arith, attachments-more)

pub at_last : (bs : List ℕ) (n k x : ℕ) → k ≤ n → n ≤ k → x ≡ new_attachment bs k → x ≡ new_attachment bs n
at_last bs n k x h l e = let f : k ≡ n = omega arith in rw f at e
