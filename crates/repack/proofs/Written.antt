-- What the functions put that put segments: a header, a content and its padding, one behind the other, are the segment. Assumes nothing.
use Prim.Native.Nat.{ℕ, ◌+◌, ◌-◌, ◌^◌, ◌≤◌, ◌<◌}
use mathlib.Core.Path.{◌≡◌, refl, sym, ap, ◌∙◌}
use mathlib.Core.List.{List, append_assoc}
use native.Mathlib.Omega.{arith}
use lib.ListN.{length}
use mir.Syntax.{w64}
use mir.Val.{Fits}
use Rattle.format.specs.Bytes.{part_of}
use Rattle.format.specs.Names.{name_file, name_directory, name_sub_block, name_metadata, name_attachment, name_attachment_directory, name_deleted}
use Rattle.segments.specs.Kinds.{name_of}
use Rattle.segments.specs.declared.kinds.Kind.{Kind}
use Rattle.format.specs.File.{directory_position, metadata_position, attachment_directory_position}
use Rattle.format.specs.Directory.{tile_count}
use Rattle.format.specs.Rules.{AcceptedFile}
use Rattle.judge.proofs.AcceptedFile.{accepted-count}
use Rattle.pack.specs.Pack.{zeros, allocated, segment_size, header, segment_bytes, joined}
use Rattle.pack.specs.Put.{put}
use Rattle.pack.proofs.Sizes.{size_holds}
use Rattle.pack.proofs.Numbers.{zeros-length}
use Rattle.pack.proofs.Packed.{header-length}
use Rattle.pack.proofs.Puts.{put-length, put-none, puts_first, puts-next}
use Rattle.repacked.specs.Contents.{file_content}
use Rattle.repacked.specs.NewFile.{if_named, entries_size, directory_size, new_metadata, new_attachment_directory, new_entry, file_segment, directory_segment}
use Rattle.repacked.proofs.Lengths.{kept, file-length, directory-content}
use Rattle.repack.proofs.Contents.{directory-content-put}
use Rattle.repack.proofs.NewPlaces.{directory-at}

-- a name is that of a kind of segment, which has 16 bytes
pub name-long : (k : Kind) {name : List ℕ} → name ≡ name_of k → length name ≡ 16
unfolding name_file name_directory name_sub_block name_metadata name_attachment name_attachment_directory name_deleted
name-long Kind.File e = ap length e
name-long Kind.Directory e = ap length e
name-long Kind.SubBlock e = ap length e
name-long Kind.Metadata e = ap length e
name-long Kind.Attachment e = ap length e
name-long Kind.AttachmentDirectory e = ap length e
name-long Kind.Deleted e = ap length e

-- the header leaves the buffer's length
header-same : (u v name : List ℕ) (p n : ℕ) → p + segment_size n ≤ length u → length name ≡ 16 → v ≡ put u p (header name n) → length v ≡ length u
header-same u v name p n h l e = ap length e ∙ put-length u (header name n) p (omega (arith, header-length name n l, size_holds n))

pub segment-put : (u v w x name content : List ℕ) (p n : ℕ) → p + segment_size n ≤ length u → length name ≡ 16 → length content ≡ n
    → x ≡ put w (p + 32 + n) (zeros (allocated n - n)) → w ≡ put v (p + 32) content → v ≡ put u p (header name n)
    → x ≡ put u p (segment_bytes (record { name = name; content = content }))
unfolding segment_bytes
segment-put u v w x name content p n h l k g f e =
    let r = size_holds n in
    let b₁ = puts_first v (header name n) 32 e (header-length name n l) in
    let b₂ = puts-next b₁ w content (p + 32) n f k refl (omega arith) in
    let b₃ = puts-next b₂ x (zeros (allocated n - n)) (p + 32 + n) (allocated n - n) g (zeros-length (allocated n - n)) (omega arith) (omega arith) in
    b₃.is ∙ rw k (ap (put u p) (append_assoc (header name n) content (zeros (allocated n - n))))

-- ---- the file segment, which has no padding: the positions q and r in the old file, m and t in the new one

pub file-put : (u v w bs : List ℕ) (x y q r m t : ℕ) → 112 ≤ length bs → 544 ≤ length u → x ≡ new_metadata bs → y ≡ new_attachment_directory bs
    → q ≡ metadata_position bs → m ≡ if_named q x 0 → r ≡ attachment_directory_position bs → t ≡ if_named r y 0
    → w ≡ put v 32 (file_content bs 544 m t) → v ≡ put u 0 (header name_file 512) → w ≡ put u 0 (segment_bytes (file_segment bs))
unfolding file_segment name_file segment_size allocated zeros
file-put u v w bs x y q r m t h k ex ey eq em er et f e =
    segment-put u v w w name_file (file_content bs 544 m t) 0 512 k refl (file-length bs 544 m t (omega arith)) (sym (put-none w 544)) f e
    ∙ rw (em, et, eq, er, ex, ey, directory-at)

-- ---- the directory, at d of the old file

module _ (bs : List ℕ) (a : AcceptedFile bs) (d : ℕ) (e : d ≡ directory_position bs) where
  pub directory-count : d + 32 + 4 ≤ length bs
  directory-count = omega (arith, accepted-count bs a d e)

  pub directory-count-fits : length bs < 2 ^ 64 → Fits w64 (d + 32)
  directory-count-fits h = omega (arith, directory-count)

pub directory-entries-room : (bs : List ℕ) (p n l : ℕ) → n ≡ tile_count bs → p + segment_size (directory_size bs) ≤ l → p + 160 + entries_size bs n ≤ l
unfolding directory_size
directory-entries-room bs p n l c h = rw c (omega (arith, size_holds (128 + entries_size bs (tile_count bs))))

pub directory-put : (u v₁ v₂ v₃ v₄ v₅ bs : List ℕ) (p n d m : ℕ) → AcceptedFile bs → n ≡ tile_count bs → d ≡ directory_position bs → m ≡ directory_size bs
    → p + segment_size (directory_size bs) ≤ length u
    → v₅ ≡ put v₄ (p + 32 + m) (zeros (allocated m - m)) → v₄ ≡ put v₃ (p + 160) (joined n (new_entry bs)) → v₃ ≡ put v₂ (p + 36) (zeros 124)
    → v₂ ≡ put v₁ (p + 32) (part_of bs (d + 32) 4) → v₁ ≡ put u p (header name_directory m) → v₅ ≡ put u p (segment_bytes (directory_segment bs))
unfolding directory_segment name_directory
directory-put u v₁ v₂ v₃ v₄ v₅ bs p n d m a c fd fm h e₅ e₄ e₃ e₂ e₁ =
    let r : p + segment_size m ≤ length u = rw fm h in
    let s = header-same u v₁ name_directory p m r refl e₁ in
    let i = accepted-count bs a d fd in
    let j = directory-entries-room bs p n (length u) c h in
    let e = directory-content-put v₁ v₂ v₃ v₄ bs (joined n (new_entry bs)) p d i (omega arith) e₄ e₃ e₂ in
    let e' = rw (c, fd) at e in
    segment-put u v₁ v₄ v₅ name_directory (directory_segment bs).content p m r refl (directory-content bs (kept bs a) ∙ sym fm) e₅ e' e₁
