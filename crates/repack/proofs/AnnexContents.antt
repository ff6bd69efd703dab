-- What the functions put that put the contents of annexes, the metadata segment, the attachment directory and the attachments: pieces one behind the
-- other are the content. Assumes nothing.
use Prim.Native.Nat.{ℕ, ◌+◌, ◌≤◌}
use mathlib.Core.Path.{◌≡◌, refl, ◌∙◌}
use mathlib.Core.List.{List, append_assoc}
use native.Mathlib.Omega.{arith}
use lib.ListN.{length}
use Rattle.format.specs.Bytes.{part_of}
use Rattle.format.specs.Attachments.{xml_size, xml_attachment_size, attachment_data_size}
use Rattle.pack.specs.Pack.{long, zeros}
use Rattle.pack.specs.Put.{put}
use Rattle.pack.proofs.Numbers.{bytes-length, zeros-length}
use Rattle.format.proofs.Parts.{part_length}
use Rattle.pack.proofs.Puts.{puts_first, puts-next}
use Rattle.repacked.specs.Contents.{metadata_content, moved_attachment_entry, attachment_directory_content, attachment_content}
use Rattle.repacked.proofs.Lengths.{attachment-entry-length}

-- ---- the metadata segment at m

pub metadata-content-put : (u v₁ v₂ v₃ bs : List ℕ) (p m n : ℕ) → m + 288 + n ≤ length bs → n ≡ xml_size bs m + xml_attachment_size bs m → p + 256 + n ≤ length u
    → v₃ ≡ put v₂ (p + 256) (part_of bs (m + 288) n) → v₂ ≡ put v₁ (p + 8) (zeros 248) → v₁ ≡ put u p (part_of bs (m + 32) 8)
    → v₃ ≡ put u p (metadata_content bs m)
unfolding metadata_content
metadata-content-put u v₁ v₂ v₃ bs p m n h k r e₃ e₂ e₁ =
    let b₁ = puts_first v₁ (part_of bs (m + 32) 8) 8 e₁ (part_length bs (m + 32) 8 (omega arith)) in
    let b₂ = puts-next b₁ v₂ (zeros 248) (p + 8) 248 e₂ (zeros-length 248) refl (omega arith) in
    let b₃ = puts-next b₂ v₃ (part_of bs (m + 288) n) (p + 256) n e₃ (part_length bs (m + 288) n h) refl (omega arith) in
    b₃.is ∙ rw (← k) (simp append_assoc)

-- ---- an attachment's entry at e, whose attachment is now at x

pub attachment-entry-put : (u v₁ v₂ v₃ v₄ bs : List ℕ) (p e x : ℕ) → e + 128 ≤ length bs → p + 128 ≤ length u
    → v₄ ≡ put v₃ (p + 20) (part_of bs (e + 20) 108) → v₃ ≡ put v₂ (p + 12) (long x) → v₂ ≡ put v₁ (p + 2) (zeros 10) → v₁ ≡ put u p (part_of bs e 2)
    → v₄ ≡ put u p (moved_attachment_entry bs e x)
unfolding moved_attachment_entry
attachment-entry-put u v₁ v₂ v₃ v₄ bs p e x h r e₄ e₃ e₂ e₁ =
    let b₁ = puts_first v₁ (part_of bs e 2) 2 e₁ (part_length bs e 2 (omega arith)) in
    let b₂ = puts-next b₁ v₂ (zeros 10) (p + 2) 10 e₂ (zeros-length 10) refl (omega arith) in
    let b₃ = puts-next b₂ v₃ (long x) (p + 12) 8 e₃ (bytes-length 8 x) refl (omega arith) in
    let b₄ = puts-next b₃ v₄ (part_of bs (e + 20) 108) (p + 20) 108 e₄ (part_length bs (e + 20) 108 (omega arith)) refl (omega arith) in
    b₄.is ∙ simp append_assoc

-- ---- the attachment directory at t, with its entries

pub directory-content-put : (u v₁ v₂ v₃ bs entries : List ℕ) (p t : ℕ) → t + 36 ≤ length bs → p + 256 ≤ length u
    → v₃ ≡ put v₂ (p + 256) entries → v₂ ≡ put v₁ (p + 4) (zeros 252) → v₁ ≡ put u p (part_of bs (t + 32) 4)
    → v₃ ≡ put u p (attachment_directory_content bs t entries)
unfolding attachment_directory_content
directory-content-put u v₁ v₂ v₃ bs entries p t h r e₃ e₂ e₁ =
    let b₁ = puts_first v₁ (part_of bs (t + 32) 4) 4 e₁ (part_length bs (t + 32) 4 (omega arith)) in
    let b₂ = puts-next b₁ v₂ (zeros 252) (p + 4) 252 e₂ (zeros-length 252) refl (omega arith) in
    let b₃ = puts-next b₂ v₃ entries (p + 256) (length entries) e₃ refl refl r in
    b₃.is ∙ simp append_assoc

-- ---- the attachment at q, whose entry is at e, and which is now at x

pub attachment-content-put : (u v₁ v₂ v₃ v₄ v₅ bs : List ℕ) (p e q n x : ℕ) → e + 128 ≤ length bs → q + 288 + n ≤ length bs → n ≡ attachment_data_size bs q
    → p + 256 + n ≤ length u → v₅ ≡ put v₄ (p + 256) (part_of bs (q + 288) n) → v₄ ≡ put v₃ (p + 144) (zeros 112)
    → v₃ ≡ put v₂ (p + 16) (moved_attachment_entry bs e x) → v₂ ≡ put v₁ (p + 4) (zeros 12) → v₁ ≡ put u p (part_of bs (q + 32) 4)
    → v₅ ≡ put u p (attachment_content bs e q x)
unfolding attachment_content
attachment-content-put u v₁ v₂ v₃ v₄ v₅ bs p e q n x h k c r e₅ e₄ e₃ e₂ e₁ =
    let b₁ = puts_first v₁ (part_of bs (q + 32) 4) 4 e₁ (part_length bs (q + 32) 4 (omega arith)) in
    let b₂ = puts-next b₁ v₂ (zeros 12) (p + 4) 12 e₂ (zeros-length 12) refl (omega arith) in
    let b₃ = puts-next b₂ v₃ (moved_attachment_entry bs e x) (p + 16) 128 e₃ (attachment-entry-length bs e x h) refl (omega arith) in
    let b₄ = puts-next b₃ v₄ (zeros 112) (p + 144) 112 e₄ (zeros-length 112) refl (omega arith) in
    let b₅ = puts-next b₄ v₅ (part_of bs (q + 288) n) (p + 256) n e₅ (part_length bs (q + 288) n k) refl (omega arith) in
    b₅.is ∙ rw (← c) (simp append_assoc)
