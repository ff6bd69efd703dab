-- What the functions need and put that put an annex as a segment, the metadata segment, the attachment directory or an attachment: a header, a content
-- and its padding. Assumes nothing.
use Prim.Native.Nat.{ℕ, ◌+◌, ◌-◌, ◌*◌, ◌^◌, ◌≤◌}
use mathlib.Core.Path.{◌≡◌, refl, sym, ◌∙◌}
use mathlib.Core.List.{List}
use native.Mathlib.Omega.{arith}
use lib.ListN.{length}
use Rattle.format.specs.Names.{name_metadata, name_attachment, name_attachment_directory}
use Rattle.format.specs.File.{metadata_position, attachment_directory_position}
use Rattle.format.specs.Attachments.{xml_size, xml_attachment_size, attachment_count, attachment_data_size}
use Rattle.format.specs.Rules.{AcceptedFile}
use Rattle.pack.specs.Pack.{zeros, allocated, segment_size, header, segment_bytes, joined}
use Rattle.pack.specs.Put.{put}
use Rattle.pack.proofs.Sizes.{size_is, allocated-holds}
use Rattle.repacked.specs.Contents.{metadata_content, attachment_directory_content, attachment_content}
use Rattle.repacked.specs.NewFile.{metadata_content_size, attachment_directory_size, attachment_content_size}
use Rattle.repacked.specs.NewFile.{new_attachment_entry, metadata_segment, attachment_directory_segment}
use Rattle.repacked.proofs.Lengths.{kept, metadata-content, attachments-content, attachment-length}
use Rattle.repack.proofs.Sums.{metadata-small, attachment-directory-small}
use Rattle.repack.proofs.Written.{segment-put}

-- ---- the room of a segment at p of l bytes, with a content of n bytes

pub record SegmentRoom (l p n : ℕ) : Type 0 where
  pub front : p + 32 ≤ l
  pub content : p + 32 + n ≤ l
  pub padding : p + 32 + n + (allocated n - n) ≤ l

pub segment-room : (l p n m : ℕ) → n ≡ m → p + segment_size m ≤ l → SegmentRoom l p n
segment-room l p n m e h =
    let k : p + segment_size n ≤ l = rw e h in
    let s = size_is n in
    let t = allocated-holds n in
    record { front = omega arith; content = omega arith; padding = omega arith }

-- ---- the metadata segment at m, whose content has n bytes

pub record MetadataRoom (bs : List ℕ) (m n l p : ℕ) : Type 0 where
  pub room : SegmentRoom l p n
  pub small : n ≤ 2 ^ 60
  pub least : 256 ≤ n
  pub parts : n - 256 ≡ xml_size bs m + xml_attachment_size bs m
  pub within : m + 288 + (n - 256) ≤ length bs

module _ (bs : List ℕ) (a : AcceptedFile bs) (m : ℕ) (e : m ≡ metadata_position bs) (some : m ≡ 0 → ⊥) (n : ℕ) (f : n ≡ metadata_content_size bs m) where
  metadata-sum : n ≡ 256 + (xml_size bs m + xml_attachment_size bs m)
  unfolding metadata_content_size
  metadata-sum = f

  metadata-within : m + 288 + (xml_size bs m + xml_attachment_size bs m) ≤ length bs
  metadata-within = rw e ((kept bs a).metadata (λ z. some (e ∙ z)))

  pub metadata-room : (l p : ℕ) → p + segment_size (metadata_content_size bs m) ≤ l → MetadataRoom bs m n l p
  metadata-room l p h = record {
    room = segment-room l p n (metadata_content_size bs m) f h;
    small = metadata-small bs a m e some n f;
    least = omega (arith, metadata-sum);
    parts = omega (arith, metadata-sum);
    within = omega (arith, metadata-sum, metadata-within);
  }

  pub metadata-put : (u v w x : List ℕ) (p : ℕ) → p + segment_size (metadata_content_size bs m) ≤ length u
      → x ≡ put w (p + 32 + n) (zeros (allocated n - n)) → w ≡ put v (p + 32) (metadata_content bs m) → v ≡ put u p (header name_metadata n)
      → x ≡ put u p (segment_bytes (metadata_segment bs))
  unfolding metadata_segment name_metadata
  metadata-put u v w x p h e₃ e₂ e₁ =
      let l = metadata-content bs (kept bs a) (λ z. some (e ∙ z)) in
      segment-put u v w x name_metadata (metadata_content bs (metadata_position bs)) p n (rw f h) refl (rw (f, e) l) e₃ (rw (← e) e₂) e₁

-- ---- the attachment directory at t, with n entries, whose content has k bytes

pub record DirectoryRoom (n k l p : ℕ) : Type 0 where
  pub room : SegmentRoom l p k
  pub small : k ≤ 2 ^ 60
  pub entries : k ≡ 256 + 128 * n

module _ (bs : List ℕ) (a : AcceptedFile bs) (n : ℕ) (c : n ≡ attachment_count bs) (k : ℕ) (f : k ≡ attachment_directory_size n) where
  directory-sum : k ≡ 256 + 128 * n
  unfolding attachment_directory_size
  directory-sum = f

  pub directory-room : (l p : ℕ) → p + segment_size (attachment_directory_size n) ≤ l → DirectoryRoom n k l p
  directory-room l p h = record {
    room = segment-room l p k (attachment_directory_size n) f h;
    small = attachment-directory-small bs a n c k f;
    entries = directory-sum;
  }

  pub directory-put : (t : ℕ) → t ≡ attachment_directory_position bs → (t ≡ 0 → ⊥) → (u v w x : List ℕ) (p : ℕ) → p + segment_size (attachment_directory_size n) ≤ length u
      → x ≡ put w (p + 32 + k) (zeros (allocated k - k)) → w ≡ put v (p + 32) (attachment_directory_content bs t (joined n (new_attachment_entry bs)))
      → v ≡ put u p (header name_attachment_directory k) → x ≡ put u p (segment_bytes (attachment_directory_segment bs))
  unfolding attachment_directory_segment name_attachment_directory
  directory-put t e some u v w x p h e₃ e₂ e₁ =
      let l = attachments-content bs (kept bs a) (λ z. some (e ∙ z)) in
      let e₂' = rw (e, c) at e₂ in
      segment-put u v w x name_attachment_directory _ p k (rw f h) refl (l ∙ rw (f, c)) e₃ e₂' e₁

-- ---- the attachment at q, whose entry is at e and whose content has n bytes

pub record AttachmentRoom (bs : List ℕ) (q n l p : ℕ) : Type 0 where
  pub room : SegmentRoom l p n
  pub small : n ≤ 2 ^ 60
  pub least : 256 ≤ n
  pub part : n - 256 ≡ attachment_data_size bs q
  pub within : q + 288 + (n - 256) ≤ length bs

module _ (bs : List ℕ) (e q : ℕ) (i : e + 128 ≤ length bs) (j : q + 288 + attachment_data_size bs q ≤ length bs) (n : ℕ) (f : n ≡ attachment_content_size bs q) where
  attachment-sum : n ≡ 256 + attachment_data_size bs q
  unfolding attachment_content_size
  attachment-sum = f

  pub attachment-room : length bs ≤ 2 ^ 40 → (l p : ℕ) → p + segment_size (attachment_content_size bs q) ≤ l → AttachmentRoom bs q n l p
  attachment-room s l p h = record {
    room = segment-room l p n (attachment_content_size bs q) f h;
    small = omega (arith, attachment-sum);
    least = omega (arith, attachment-sum);
    part = omega (arith, attachment-sum);
    within = omega (arith, attachment-sum);
  }

  pub attachment-put : (u v w x : List ℕ) (p : ℕ) → p + segment_size (attachment_content_size bs q) ≤ length u
      → x ≡ put w (p + 32 + n) (zeros (allocated n - n)) → w ≡ put v (p + 32) (attachment_content bs e q p) → v ≡ put u p (header name_attachment n)
      → x ≡ put u p (segment_bytes (record { name = name_attachment; content = attachment_content bs e q p }))
  unfolding name_attachment
  attachment-put u v w x p h e₃ e₂ e₁ =
      segment-put u v w x name_attachment (attachment_content bs e q p) p n (rw f h) refl (attachment-length bs e q p i j ∙ sym f) e₃ e₂ e₁
