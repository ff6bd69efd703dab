-- What the functions put that put contents: pieces one behind the other are the content. Assumes nothing.
use Prim.Native.Nat.{ℕ, ◌+◌, ◌*◌, ◌≤◌}
use mathlib.Core.Path.{◌≡◌, refl, ap, ◌∙◌}
use mathlib.Core.List.{List, append_assoc}
use native.Mathlib.Omega.{arith}
use lib.ListN.{length}
use Rattle.format.specs.Bytes.{part_of}
use Rattle.format.specs.Entry.{dimension_count, next_entry}
use Rattle.subblocks.specs.Judged.{Listed}
use Rattle.pack.specs.Pack.{long, zeros}
use Rattle.pack.specs.Put.{put}
use Rattle.pack.proofs.Numbers.{bytes-length, zeros-length}
use Rattle.format.proofs.Parts.{part_length}
use Rattle.pack.proofs.Puts.{puts_first, puts-next}
use Rattle.repacked.specs.Contents.{file_content, moved_entry, directory_content}
use Rattle.repacked.specs.NewFile.{entry_size}

-- ---- the file segment

pub file-content-put : (u v₁ v₂ v₃ v₄ v₅ v₆ v₇ v₈ v₉ bs : List ℕ) (p d m a : ℕ) → 112 ≤ length bs → p + 512 ≤ length u
    → v₉ ≡ put v₈ (p + 80) (zeros 432) → v₈ ≡ put v₇ (p + 72) (long a) → v₇ ≡ put v₆ (p + 68) (zeros 4) → v₆ ≡ put v₅ (p + 60) (long m)
    → v₅ ≡ put v₄ (p + 52) (long d) → v₄ ≡ put v₃ (p + 48) (zeros 4) → v₃ ≡ put v₂ (p + 16) (part_of bs 48 32) → v₂ ≡ put v₁ (p + 8) (zeros 8)
    → v₁ ≡ put u p (part_of bs 32 8) → v₉ ≡ put u p (file_content bs d m a)
unfolding file_content
file-content-put u v₁ v₂ v₃ v₄ v₅ v₆ v₇ v₈ v₉ bs p d m a h r e₉ e₈ e₇ e₆ e₅ e₄ e₃ e₂ e₁ =
    let b₁ = puts_first v₁ (part_of bs 32 8) 8 e₁ (part_length bs 32 8 (omega arith)) in
    let b₂ = puts-next b₁ v₂ (zeros 8) (p + 8) 8 e₂ (zeros-length 8) refl (omega arith) in
    let b₃ = puts-next b₂ v₃ (part_of bs 48 32) (p + 16) 32 e₃ (part_length bs 48 32 (omega arith)) refl (omega arith) in
    let b₄ = puts-next b₃ v₄ (zeros 4) (p + 48) 4 e₄ (zeros-length 4) refl (omega arith) in
    let b₅ = puts-next b₄ v₅ (long d) (p + 52) 8 e₅ (bytes-length 8 d) refl (omega arith) in
    let b₆ = puts-next b₅ v₆ (long m) (p + 60) 8 e₆ (bytes-length 8 m) refl (omega arith) in
    let b₇ = puts-next b₆ v₇ (zeros 4) (p + 68) 4 e₇ (zeros-length 4) refl (omega arith) in
    let b₈ = puts-next b₇ v₈ (long a) (p + 72) 8 e₈ (bytes-length 8 a) refl (omega arith) in
    let b₉ = puts-next b₈ v₉ (zeros 432) (p + 80) 432 e₉ (zeros-length 432) refl (omega arith) in
    b₉.is ∙ simp append_assoc

-- ---- the entry at e, which has n dimensions and whose sub-block is to stand at x

pub entry-put : (u v₁ v₂ v₃ v₄ v₅ bs : List ℕ) (p e n x : ℕ) → Listed bs e → p + entry_size bs e ≤ length u → n ≡ dimension_count bs e
    → v₅ ≡ put v₄ (p + 28) (part_of bs (e + 28) (4 + 20 * n)) → v₄ ≡ put v₃ (p + 23) (zeros 5) → v₃ ≡ put v₂ (p + 14) (part_of bs (e + 14) 9)
    → v₂ ≡ put v₁ (p + 6) (long x) → v₁ ≡ put u p (part_of bs e 6) → v₅ ≡ put u p (moved_entry bs e x)
unfolding moved_entry entry_size next_entry
entry-put u v₁ v₂ v₃ v₄ v₅ bs p e n x l r f e₅ e₄ e₃ e₂ e₁ =
    let h = l.entry in
    let b₁ = puts_first v₁ (part_of bs e 6) 6 e₁ (part_length bs e 6 (omega arith)) in
    let b₂ = puts-next b₁ v₂ (long x) (p + 6) 8 e₂ (bytes-length 8 x) refl (omega arith) in
    let b₃ = puts-next b₂ v₃ (part_of bs (e + 14) 9) (p + 14) 9 e₃ (part_length bs (e + 14) 9 (omega arith)) refl (omega arith) in
    let b₄ = puts-next b₃ v₄ (zeros 5) (p + 23) 5 e₄ (zeros-length 5) refl (omega arith) in
    let i : length (part_of bs (e + 28) (4 + 20 * n)) ≡ 4 + 20 * n = part_length bs (e + 28) (4 + 20 * n) (omega arith) in
    let b₅ = puts-next b₄ v₅ (part_of bs (e + 28) (4 + 20 * n)) (p + 28) (4 + 20 * n) e₅ i refl (omega arith) in
    b₅.is ∙ rw f (ap (put u p) (simp append_assoc))

-- ---- the content of the directory at d, with those entries: the segment is put at p, its header at first

pub directory-content-put : (u v₁ v₂ v₃ bs entries : List ℕ) (p d : ℕ) → d + 36 ≤ length bs → p + 160 ≤ length u
    → v₃ ≡ put v₂ (p + 160) entries → v₂ ≡ put v₁ (p + 36) (zeros 124) → v₁ ≡ put u (p + 32) (part_of bs (d + 32) 4)
    → v₃ ≡ put u (p + 32) (directory_content bs d entries)
unfolding directory_content
directory-content-put u v₁ v₂ v₃ bs entries p d h r e₃ e₂ e₁ =
    let b₁ = puts_first v₁ (part_of bs (d + 32) 4) 4 e₁ (part_length bs (d + 32) 4 (omega arith)) in
    let b₂ = puts-next b₁ v₂ (zeros 124) (p + 36) 124 e₂ (zeros-length 124) (omega arith) (omega arith) in
    let b₃ = puts-next b₂ v₃ entries (p + 160) (length entries) e₃ refl (omega arith) (omega arith) in
    b₃.is ∙ ap (put u (p + 32)) (append_assoc (part_of bs (d + 32) 4) (zeros 124) entries)
