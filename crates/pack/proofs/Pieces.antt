-- What the functions put that are made of several pieces: a segment's header and its padding. Assumes nothing.
use Prim.Native.Nat.{ℕ, ◌+◌, ◌-◌, ◌≤◌}
use mathlib.Core.Path.{◌≡◌, refl, sym, ◌∙◌}
use mathlib.Core.List.{List, append_assoc}
use native.Mathlib.Omega.{arith}
use lib.ListN.{length}
use Rattle.format.specs.Bytes.{part_of}
use Rattle.pack.specs.Pack.{long, zeros, allocated, header}
use Rattle.pack.specs.Put.{put}
use Rattle.pack.proofs.Numbers.{bytes-length}
use Rattle.format.proofs.Parts.{part-all}
use Rattle.pack.proofs.Puts.{puts_first, puts-next}

pub header-put : (u v w x name : List ℕ) (p n a : ℕ) → p + 32 ≤ length u → length name ≡ 16 → v ≡ put u p (part_of name 0 16) → a ≡ allocated n
    → w ≡ put v (p + 16) (long a) → x ≡ put w (p + 24) (long n) → x ≡ put u p (header name n)
unfolding header
header-put u v w x name p n a h l e f g i =
    let e' : v ≡ put u p name = rw (part-all name 16 (sym l)) at e in
    let b₁ = puts_first v name 16 e' l in
    let b₂ = puts-next b₁ w (long a) (p + 16) 8 g (bytes-length 8 a) refl (omega arith) in
    let b₃ = puts-next b₂ x (long n) (p + 24) 8 i (bytes-length 8 n) refl (omega arith) in
    b₃.is ∙ rw (f, append_assoc name (long (allocated n)) (long n))

pub padding-put : (u v : List ℕ) (p n a : ℕ) → a ≡ allocated n → v ≡ put u p (zeros (a - n)) → v ≡ put u p (zeros (allocated n - n))
padding-put u v p n a e f = f ∙ rw e
