-- A sub-block that is put: the numbers that its pieces stand by, its content, and its segment. The old one is at q, its entry at e. Assumes nothing.
use Prim.Native.Nat.{ℕ, ◌+◌, ◌-◌, ◌*◌, ◌^◌, ◌≤◌}
use mathlib.Core.Path.{◌≡◌, refl, sym, ap, ◌∙◌}
use mathlib.Core.List.{List, append_assoc}
use native.Mathlib.Omega.{arith}
use lib.ListN.{length}
use Rattle.format.specs.Bytes.{part_of}
use Rattle.format.specs.Names.{name_sub_block}
use Rattle.format.specs.Entry.{dimension_count}
use Rattle.format.specs.SubBlock.{fixed_part, metadata_place}
use Rattle.format.specs.Records.{metadata_span}
use Rattle.format.specs.declared.Span.{Span}
use Rattle.subblocks.specs.Judged.{Filled}
use Rattle.subblocks.proofs.PartLaws.{agreed-in, sizes-in}
use Rattle.pack.specs.Pack.{zeros, allocated, segment_size, header, segment_bytes}
use Rattle.pack.specs.Put.{put}
use Rattle.pack.proofs.Numbers.{zeros-length}
use Rattle.format.proofs.Parts.{part_length}
use Rattle.pack.proofs.Puts.{puts_first, puts-next}
use Rattle.repacked.specs.Contents.{moved_entry, parts_size, sub_block_content}
use Rattle.repacked.specs.NewFile.{entry_size, sub_block_size}
use Rattle.repacked.proofs.Lengths.{copy-fits, entry-size-is, entry_length, block-length}
use Rattle.repack.proofs.Bounds.{block_in}
use Rattle.repack.proofs.Written.{segment-put}

-- ---- numbers; the metadata stand at m

pub record BlockNumbers (bs : List ℕ) (e q m : ℕ) : Type 0 where
  pub place : m ≡ metadata_place bs e q
  pub start : m ≡ q + 32 + fixed_part (dimension_count bs e)
  pub sizes : q + 48 ≤ length bs
  pub entry : entry_size bs e ≡ 32 + 20 * dimension_count bs e
  pub copied : 16 + entry_size bs e ≤ fixed_part (dimension_count bs e)
  pub most : fixed_part (dimension_count bs e) ≤ 368
  pub size : sub_block_size bs e q ≡ fixed_part (dimension_count bs e) + parts_size bs q
  pub within : m + parts_size bs q ≤ length bs

parts_within : (bs : List ℕ) (e q : ℕ) → Filled bs e bs q → metadata_place bs e q + parts_size bs q ≤ length bs
unfolding metadata_place sub_block_size
parts_within bs e q f = omega (arith, block_in bs e q f)

pub block-numbers : (bs : List ℕ) (e q : ℕ) → Filled bs e bs q → (m : Span) → m ≡ metadata_span bs e bs q → BlockNumbers bs e q m.start
unfolding metadata_span metadata_place sub_block_size
block-numbers bs e q f m i =
    let p : m.start ≡ metadata_place bs e q = rw i in
    record {
      place = p;
      start = p;
      sizes = sizes-in bs e bs q f.agreed;
      entry = entry-size-is bs e;
      copied = omega (arith, copy-fits (dimension_count bs e), entry-size-is bs e);
      most = (agreed-in bs e bs q f.agreed).most;
      size = refl;
      within = rw p (parts_within bs e q f);
    }

-- ---- the content, from p on, of a sub-block that is to stand at x; its entry has r bytes, its parts n

pub block-content-put : (u v₁ v₂ v₃ v₄ bs : List ℕ) (p e q x r n : ℕ) (m : Span) → Filled bs e bs q → p + sub_block_size bs e q ≤ length u
    → m ≡ metadata_span bs e bs q → r ≡ entry_size bs e → n ≡ parts_size bs q
    → v₄ ≡ put v₃ (p + (m.start - q - 32)) (part_of bs m.start n) → v₃ ≡ put v₂ (p + (16 + r)) (zeros (m.start - q - 32 - (16 + r)))
    → v₂ ≡ put v₁ (p + 16) (moved_entry bs e x) → v₁ ≡ put u p (part_of bs (q + 32) 16) → v₄ ≡ put u p (sub_block_content bs e q x)
unfolding sub_block_content
block-content-put u v₁ v₂ v₃ v₄ bs p e q x r n m f h i fr fn e₄ e₃ e₂ e₁ =
    let k = block-numbers bs e q f m i in
    let z = fixed_part (dimension_count bs e) - (48 + 20 * dimension_count bs e) in
    let g : m.start - q - 32 - (16 + r) ≡ z = omega arith in
    let e₃' : v₃ ≡ put v₂ (p + (16 + r)) (zeros z) = rw g at e₃ in
    let e₄' : v₄ ≡ put v₃ (p + (m.start - q - 32)) (part_of bs (metadata_place bs e q) (parts_size bs q)) = e₄ ∙ rw (fn, k.place) in
    let b₁ = puts_first v₁ (part_of bs (q + 32) 16) 16 e₁ (part_length bs (q + 32) 16 (omega arith)) in
    let b₂ = puts-next b₁ v₂ (moved_entry bs e x) (p + 16) (entry_size bs e) e₂ (entry_length bs e x f.agreed.placed.listed.entry) refl (omega arith) in
    let b₃ = puts-next b₂ v₃ (zeros z) (p + (16 + r)) z e₃' (zeros-length z) (omega arith) (omega arith) in
    let l = part_length bs (metadata_place bs e q) (parts_size bs q) (parts_within bs e q f) in
    let b₄ = puts-next b₃ v₄ (part_of bs (metadata_place bs e q) (parts_size bs q)) (p + (m.start - q - 32)) (parts_size bs q) e₄' l (omega arith) (omega arith) in
    b₄.is ∙ ap (put u p) (simp append_assoc)

-- ---- the segment, at p, with a content of n bytes

pub block-content-small : (bs : List ℕ) (e q n : ℕ) → Filled bs e bs q → length bs ≤ 2 ^ 40 → n ≡ sub_block_size bs e q → n ≤ 2 ^ 60
block-content-small bs e q n f h fn = omega (arith, block_in bs e q f)

pub block-put : (u v₁ v₂ v₃ bs : List ℕ) (p e q n : ℕ) → Filled bs e bs q → p + segment_size (sub_block_size bs e q) ≤ length u → n ≡ sub_block_size bs e q
    → v₃ ≡ put v₂ (p + 32 + n) (zeros (allocated n - n)) → v₂ ≡ put v₁ (p + 32) (sub_block_content bs e q p) → v₁ ≡ put u p (header name_sub_block n)
    → v₃ ≡ put u p (segment_bytes (record { name = name_sub_block; content = sub_block_content bs e q p }))
unfolding name_sub_block
block-put u v₁ v₂ v₃ bs p e q n f h fn e₃ e₂ e₁ =
    let l = block-length bs e q p f.agreed.placed.listed.entry (sizes-in bs e bs q f.agreed) (parts_within bs e q f) in
    segment-put u v₁ v₂ v₃ name_sub_block (sub_block_content bs e q p) p n (rw fn h) refl (l ∙ sym fn) e₃ e₂ e₁
