-- Stretches of equal bytes, and bytes compared by words: two words are equal just where their bytes are. Assumes nothing.
use Prim.Native.Nat.{ℕ, zero, suc, ◌+◌, ◌-◌, ◌*◌, ◌<◌}
use mathlib.Core.Path.{◌≡◌, refl, sym, ap, ◌∙◌, fun_ext}
use mathlib.Core.List.{List}
use mathlib.Core.Bool.{Bool, true, false}
use native.Mathlib.Omega.{arith}
use native.Mathlib.Nat.{add-zero, zero-add, add_assoc}
use lib.ListN.{length, get_or}
use lib.Dec.{eqb, ltb}
use borrow.Author.Tests.{eq-eqb, eqb-true, ltb-true, ltb-false}
use Rattle.format.specs.Bytes.{all_below, u32_at, u64_at, same_at, same_range}
use Rattle.format.proofs.Below.{all-intro, all-at}

-- the n bytes at a of s are those at b of t
abbrev pub Same : ℕ → List ℕ → ℕ → List ℕ → ℕ → Type 0
Same n s a t b = (i : ℕ) → i < n → get_or s (a + i) 0 ≡ get_or t (b + i) 0

pub range-bytes : (n : ℕ) (s : List ℕ) (a : ℕ) (t : List ℕ) (b : ℕ) → same_range n s a t b ≡ true → Same n s a t b
unfolding same_range
range-bytes n s a t b e i h = eqb-true _ _ (all-at n i _ e h)

-- a string stands at p where its whole stretch does
pub range_at : (s : List ℕ) (p : ℕ) (xs : List ℕ) → same_range (length xs) s p xs 0 ≡ same_at s p xs
unfolding same_at same_range
range_at s p xs = ap (all_below (length xs)) (fun_ext (λ i. ap (λ (k : ℕ). eqb (get_or s (p + i) 0) (get_or xs k 0)) (zero-add i)))

-- a stretch from its two halves, and its halves
module _ (m n : ℕ) (s : List ℕ) (a : ℕ) (t : List ℕ) (b : ℕ) where
  join : Same m s a t b → Same n s (a + m) t (b + m) → Same (m + n) s a t b
  join f g i h = go (ltb i m) refl
    where
      go : (u : Bool) → ltb i m ≡ u → get_or s (a + i) 0 ≡ get_or t (b + i) 0
      go true e = f i (ltb-true i m e)
      go false e =
          let l = ltb-false i m e in
          let p : a + m + (i - m) ≡ a + i = omega arith in
          let q : b + m + (i - m) ≡ b + i = omega arith in
          rw (p, q) at (g (i - m) (omega arith))

  front : Same (m + n) s a t b → Same m s a t b
  front f i h = f i (omega arith)

  back : Same (m + n) s a t b → Same n s (a + m) t (b + m)
  back f i h = rw (add_assoc a m i, add_assoc b m i) (f (m + i) (omega arith))

-- ---- equal bytes make equal words

pub same-u32 : (s : List ℕ) (a : ℕ) (t : List ℕ) (b : ℕ) → Same 4 s a t b → u32_at s a ≡ u32_at t b
unfolding u32_at
same-u32 s a t b f =
    let zeroth : get_or s a 0 ≡ get_or t b 0 = rw (add-zero a, add-zero b) at (f 0 (omega arith)) in
    rw (zeroth, f 1 (omega arith), f 2 (omega arith), f 3 (omega arith))

same-u64 : (s : List ℕ) (a : ℕ) (t : List ℕ) (b : ℕ) → Same 8 s a t b → u64_at s a ≡ u64_at t b
unfolding u64_at
same-u64 s a t b f = rw (same-u32 s a t b (front 4 4 s a t b f), same-u32 s (a + 4) t (b + 4) (back 4 4 s a t b f))

-- ---- equal words have equal bytes

pub u32-lt : (l : List ℕ) → ((i : ℕ) → get_or l i 0 < 256) → (a : ℕ) → u32_at l a < 4294967296
unfolding u32_at
u32-lt l h a = omega (arith, h a, h (a + 1), h (a + 2), h (a + 3))

digits : (w x y z w' x' y' z' : ℕ) → w < 256 → x < 256 → y < 256 → z < 256 → w' < 256 → x' < 256 → y' < 256 → z' < 256
    → w + 256 * x + 65536 * y + 16777216 * z ≡ w' + 256 * x' + 65536 * y' + 16777216 * z' → (w ≡ w') × (x ≡ x') × (y ≡ y') × (z ≡ z')
digits w x y z w' x' y' z' a b c d a' b' c' d' e = (omega arith, omega arith, omega arith, omega arith)

module _ (s t : List ℕ) (hs : (i : ℕ) → get_or s i 0 < 256) (ht : (i : ℕ) → get_or t i 0 < 256) where
  u32-bytes : (a b : ℕ) → u32_at s a ≡ u32_at t b → Same 4 s a t b
  unfolding u32_at
  u32-bytes a b e = go (digits _ _ _ _ _ _ _ _ (hs a) (hs (a + 1)) (hs (a + 2)) (hs (a + 3)) (ht b) (ht (b + 1)) (ht (b + 2)) (ht (b + 3)) e)
    where
      go : (get_or s a 0 ≡ get_or t b 0) × (get_or s (a + 1) 0 ≡ get_or t (b + 1) 0) × (get_or s (a + 2) 0 ≡ get_or t (b + 2) 0) × (get_or s (a + 3) 0 ≡ get_or t (b + 3) 0)
          → Same 4 s a t b
      go d zero h = rw (add-zero a, add-zero b) d.0
      go d (suc zero) h = d.1
      go d (suc (suc zero)) h = d.2
      go d (suc (suc (suc zero))) h = d.3
      go d (suc (suc (suc (suc i)))) h = absurd (omega arith)

  pub u64-bytes : (a b : ℕ) → u64_at s a ≡ u64_at t b → Same 8 s a t b
  unfolding u64_at
  u64-bytes a b e =
      let low : u32_at s a ≡ u32_at t b = omega (arith, u32-lt s hs a, u32-lt t ht b) in
      let high : u32_at s (a + 4) ≡ u32_at t (b + 4) = omega (arith, u32-lt s hs a, u32-lt t ht b) in
      join 4 4 s a t b (u32-bytes a b low) (u32-bytes (a + 4) (b + 4) high)

-- ---- a name of 16 bytes

module _ (s : List ℕ) (p : ℕ) (name : List ℕ) (size : length name ≡ 16) where
  name-bytes : same_at s p name ≡ true → Same 16 s p name 0
  name-bytes e i h = range-bytes (length name) s p name 0 (range_at s p name ∙ e) i (omega arith)

  unlike : (Same 16 s p name 0 → ⊥) → false ≡ same_at s p name
  unlike h = go (same_at s p name) refl
    where
      go : (u : Bool) → same_at s p name ≡ u → false ≡ same_at s p name
      go true e = absurd (h (name-bytes e))
      go false e = sym e

  pub low-differs : (u64_at s p ≡ u64_at name 0 → ⊥) → false ≡ same_at s p name
  low-differs h = unlike (λ f. h (same-u64 s p name 0 (front 8 8 s p name 0 f)))

  pub high-differs : (u64_at s (p + 8) ≡ u64_at name 8 → ⊥) → false ≡ same_at s p name
  high-differs h = unlike (λ f. h (same-u64 s (p + 8) name 8 (back 8 8 s p name 0 f)))

  pub words-agree : ((i : ℕ) → get_or s i 0 < 256) → ((i : ℕ) → get_or name i 0 < 256)
      → u64_at s p ≡ u64_at name 0 → u64_at s (p + 8) ≡ u64_at name 8 → true ≡ same_at s p name
  unfolding same_at
  words-agree hs hn e f =
      let all = join 8 8 s p name 0 (u64-bytes s name hs hn p 0 e) (u64-bytes s name hs hn (p + 8) 8 f) in
      sym (all-intro (length name) _ (λ i h. eq-eqb (get_or s (p + i) 0) (get_or name i 0) (rw (zero-add i) at (all i (omega arith)))))
