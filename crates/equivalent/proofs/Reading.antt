-- Reads of two stretches of bytes that are the same, each at its own place. Reads are total, so no length is asked for. Assumes nothing.
use Prim.Native.Nat.{ℕ, ◌+◌, ◌≤◌, ◌<◌}
use mathlib.Core.Path.{◌≡◌, sym, ap, ◌∙◌}
use mathlib.Core.List.{List}
use mathlib.Core.Bool.{true}
use native.Mathlib.Omega.{arith}
use native.Mathlib.Nat.{add_assoc}
use lib.ListN.{length, get_or, drop, length-take, length-drop}
use lib.Seq.{ext_get_or, take-add, drop-drop}
use borrow.Author.Tests.{eq-eqb}
use Rattle.format.specs.Bytes.{u32_at, u64_at, same_at, same_range, part_of}
use Rattle.format.proofs.Below.{all-intro, all_alike}
use Rattle.format.proofs.Parts.{part_length, part_at, parts-agree, same-agrees}
use Rattle.fields.proofs.Words as Words
use Rattle.equivalent.specs.Same.{Same}

-- ---- stretches

module _ (n : ℕ) (ds : List ℕ) (a : ℕ) (bs : List ℕ) (b : ℕ) where
  -- equal bytes that lie in both make a stretch
  pub same-of-bytes : a + n ≤ length ds → b + n ≤ length bs → ((i : ℕ) → i < n → get_or ds (a + i) 0 ≡ get_or bs (b + i) 0) → Same n ds a bs b
  same-of-bytes h k f =
      ext_get_or 0 (part_of ds a n) (part_of bs b n) (part_length ds a n h ∙ sym (part_length bs b n k))
      (λ i l. let j : i < n = omega (arith, part_length ds a n h) in part_at ds a n i j ∙ f i j ∙ sym (part_at bs b n i j))

  pub same-of-range : a + n ≤ length ds → b + n ≤ length bs → same_range n ds a bs b ≡ true → Same n ds a bs b
  same-of-range h k e = same-of-bytes h k (Words.range-bytes n ds a bs b e)

  -- two that adjoin make one
  pub same-joined : (m : ℕ) → Same n ds a bs b → Same m ds (a + n) bs (b + n) → Same (n + m) ds a bs b
  unfolding part_of
  same-joined m s t =
      rw (take-add n m (drop a ds), take-add n m (drop b bs), drop-drop n a ds, drop-drop n b bs, s, t)

  module _ (s : Same n ds a bs b) where
    pub same_byte : (i : ℕ) → i < n → get_or ds (a + i) 0 ≡ get_or bs (b + i) 0
    same_byte i h = sym (part_at ds a n i h) ∙ ap (λ l. get_or l i 0) s ∙ part_at bs b n i h

    -- as many of the bytes lie in the one file as in the other
    pub same-fits : 0 < n → a + n ≤ length ds → b + n ≤ length bs
    unfolding part_of
    same-fits h k = omega (arith, simp (length-take, length-drop) at (ap length s))

    pub same-within : (o m : ℕ) → o + m ≤ n → Same m ds (a + o) bs (b + o)
    same-within o m h = parts-agree ds a bs b n o m s h

    -- the same at places that are written in another way
    pub same-inside : (o m p q : ℕ) → p ≡ a + o → q ≡ b + o → o + m ≤ n → Same m ds p bs q
    same-inside o m p q i j h = rw (i, j) (same-within o m h)

    pub same-mirrored : Same n bs b ds a
    same-mirrored = sym s

-- ---- numbers and byte strings

module _ (n : ℕ) (ds : List ℕ) (a : ℕ) (bs : List ℕ) (b : ℕ) (s : Same n ds a bs b) where
  pub same-u32 : (o : ℕ) → o + 4 ≤ n → u32_at ds (a + o) ≡ u32_at bs (b + o)
  same-u32 o h = Words.same-u32 ds (a + o) bs (b + o) (same_byte 4 ds (a + o) bs (b + o) (same-within n ds a bs b s o 4 h))

  -- at places that are written in another way
  pub u32-inside : (o p q : ℕ) → p ≡ a + o → q ≡ b + o → o + 4 ≤ n → u32_at ds p ≡ u32_at bs q
  u32-inside o p q i j h = rw (i, j) (same-u32 o h)

  pub same-u64 : (o : ℕ) → o + 8 ≤ n → u64_at ds (a + o) ≡ u64_at bs (b + o)
  unfolding u64_at
  same-u64 o h = rw (add_assoc a o 4, add_assoc b o 4, same-u32 o (omega arith), same-u32 (o + 4) (omega arith))

  pub u64-inside : (o p q : ℕ) → p ≡ a + o → q ≡ b + o → o + 8 ≤ n → u64_at ds p ≡ u64_at bs q
  u64-inside o p q i j h = rw (i, j) (same-u64 o h)

  -- a name, in front and within
  pub name-front : (xs : List ℕ) → length xs ≤ n → same_at ds a xs ≡ same_at bs b xs
  name-front xs h = same-agrees ds a bs b n xs s h

  pub same_name : (o : ℕ) (xs : List ℕ) → o + length xs ≤ n → same_at ds (a + o) xs ≡ same_at bs (b + o) xs
  unfolding same_at
  same_name o xs h =
      all_alike (length xs) _ _
      (λ i l. rw (same_byte (length xs) ds (a + o) bs (b + o) (same-within n ds a bs b s o (length xs) h) i l))

  -- a comparison with a third stretch, which stands behind it or before it
  pub same-range : (o m : ℕ) (cs : List ℕ) (c : ℕ) → o + m ≤ n → same_range m ds (a + o) cs c ≡ same_range m bs (b + o) cs c
  unfolding same_range
  same-range o m cs c h =
      all_alike m _ _ (λ i l. rw (same_byte m ds (a + o) bs (b + o) (same-within n ds a bs b s o m h) i l))

  pub same-range-of : (o m : ℕ) (cs : List ℕ) (c : ℕ) → o + m ≤ n → same_range m cs c ds (a + o) ≡ same_range m cs c bs (b + o)
  unfolding same_range
  same-range-of o m cs c h =
      all_alike m _ _ (λ i l. rw (same_byte m ds (a + o) bs (b + o) (same-within n ds a bs b s o m h) i l))

  -- the two compared with each other
  pub same-is-range : same_range n ds a bs b ≡ true
  unfolding same_range
  same-is-range = all-intro n _ (λ i l. eq-eqb _ _ (same_byte n ds a bs b s i l))
