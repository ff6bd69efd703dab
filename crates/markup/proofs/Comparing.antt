-- Laws of comparing: a part of bytes that begins with a string, and two strings that are the same. Assumes nothing.
use Prim.Native.Nat.{ℕ, zero, suc, ◌+◌, ◌-◌, ◌≤◌, ◌<◌}
use mathlib.Core.Path.{◌≡◌, refl, sym, ◌∙◌, ap, fun_ext}
use mathlib.Core.List.{List, [], ◌∷◌}
use mathlib.Core.Bool.{Bool, false, ◌&&◌, and_assoc, and-true, and-false}
use native.Mathlib.Nat.{add-zero, not-suc-le-zero, le_of_suc-le-suc}
use native.Mathlib.Omega.{arith}
use lib.ListN.{length, get_or, drop}
use lib.Seq.{get_or-take, get_or-drop}
use lib.Dec.{eqb}
use Rattle.std.proofs.Math.Seq.{drop-cons}
use Rattle.format.specs.Bytes.{all_below, same_at, same_range, part_of}
use Rattle.format.specs.Markup.{begins}
use Rattle.format.specs.Container.{same_bytes}
use Rattle.format.proofs.Below.{all_alike}
use Rattle.format.proofs.Parts.{part_length}

-- ---- a string at a place, byte by byte

all_first : (n : ℕ) (t : ℕ → Bool) → all_below (suc n) t ≡ (t 0 && all_below n (λ i. t (suc i)))
unfolding all_below
all_first zero t = sym (and-true (t 0))
all_first (suc n) t = rw (all_first n t) (and_assoc (t 0) (all_below n (λ i. t (suc i))) (t (suc n)))

same_first : (bs : List ℕ) (p x : ℕ) (xs : List ℕ) → same_at bs p (x ∷ xs) ≡ (eqb (get_or bs p 0) x && same_at bs (p + 1) xs)
unfolding same_at
same_first bs p x xs =
    all_first (length xs) (λ i. eqb (get_or bs (p + i) 0) (get_or (x ∷ xs) i 0)) ∙ rw (add-zero p) (ap (λ (t : Bool). eqb (get_or bs p 0) x && t) shift)
  where
    shift : all_below (length xs) (λ i. eqb (get_or bs (p + suc i) 0) (get_or xs i 0)) ≡ all_below (length xs) (λ i. eqb (get_or bs (p + 1 + i) 0) (get_or xs i 0))
    shift = ap (all_below (length xs)) (fun_ext (λ i. let e : p + suc i ≡ p + 1 + i = omega arith in rw e))

-- ---- the bytes from `at` up to `end`

part-one : (bs : List ℕ) (at end : ℕ) → at < end → end ≤ length bs → part_of bs at (end - at) ≡ get_or bs at 0 ∷ part_of bs (at + 1) (end - (at + 1))
unfolding part_of
part-one bs at end h k =
    let e : end - at ≡ suc (end - (at + 1)) = omega arith in
    let f : at + 1 ≡ suc at = omega arith in
    rw (e, f, drop-cons bs at 0 (omega arith))

-- where they are as many they begin with a string exactly where the string stands at their place
pub begins-same : (m bs : List ℕ) (at end : ℕ) → at + length m ≤ end → end ≤ length bs → begins m (part_of bs at (end - at)) ≡ same_at bs at m
unfolding begins same_at all_below
begins-same [] bs at end h k = refl
begins-same (x ∷ m) bs at end h k =
    rw (part-one bs at end (omega arith) k, begins-same m bs (at + 1) end (omega arith) k) (sym (same_first bs at x m))

-- bytes that are too few don't
pub begins-short : (m bs : List ℕ) → length bs < length m → begins m bs ≡ false
unfolding begins
begins-short [] bs h = absurd (not-suc-le-zero h)
begins-short (x ∷ m) [] h = refl
begins-short (x ∷ m) (b ∷ bs) h = rw (begins-short m bs (le_of_suc-le-suc h)) (and-false (eqb b x))

-- ---- the same strings

-- strings of unlike lengths are not the same
pub same-lengths : (xs ys : List ℕ) → (length xs ≡ length ys → ⊥) → same_bytes xs ys ≡ false
unfolding same_bytes
same-lengths [] [] h = absurd (h refl)
same-lengths [] (y ∷ ys) h = refl
same-lengths (x ∷ xs) [] h = refl
same-lengths (x ∷ xs) (y ∷ ys) h = rw (same-lengths xs ys (λ e. h (ap suc e))) (and-false (eqb x y))

-- of like lengths they are the same where one begins with the other
same-begins : (xs ys : List ℕ) → length xs ≡ length ys → same_bytes xs ys ≡ begins ys xs
unfolding same_bytes begins
same-begins [] [] e = refl
same-begins [] (y ∷ ys) e = absurd (omega (arith, e))
same-begins (x ∷ xs) [] e = absurd (omega (arith, e))
same-begins (x ∷ xs) (y ∷ ys) e = ap (λ (t : Bool). eqb x y && t) (same-begins xs ys (omega (arith, e)))

part-begins : (m bs : List ℕ) (p n : ℕ) → p + n ≤ length bs → n ≡ length m → begins m (part_of bs p n) ≡ same_at bs p m
part-begins m bs p n h e =
    let f : p + n - p ≡ n = omega arith in
    ap (λ (k : ℕ). begins m (part_of bs p k)) (sym f) ∙ begins-same m bs p (p + n) (omega arith) h

-- the n bytes at p are those of a string of n bytes that stands there
pub same-string : (bs : List ℕ) (p n : ℕ) (xs : List ℕ) (r : Bool) → p + n ≤ length bs → n ≡ length xs → r ≡ same_at bs p xs
    → r ≡ same_bytes (part_of bs p n) xs
same-string bs p n xs r h e z =
    z ∙ sym (same-begins (part_of bs p n) xs (part_length bs p n h ∙ e) ∙ part-begins xs bs p n h e)

pub unlike-string : (bs : List ℕ) (p n : ℕ) (xs : List ℕ) → p + n ≤ length bs → (n ≡ length xs → ⊥) → false ≡ same_bytes (part_of bs p n) xs
unlike-string bs p n xs h ne = sym (same-lengths (part_of bs p n) xs (λ e. ne (sym (part_length bs p n h) ∙ e)))

-- two parts of the same bytes
module _ (bs : List ℕ) (a n b m : ℕ) (h : a + n ≤ length bs) (k : b + m ≤ length bs) where
  pub unlike-parts : (n ≡ m → ⊥) → false ≡ same_bytes (part_of bs a n) (part_of bs b m)
  unlike-parts ne = unlike-string bs a n (part_of bs b m) h (λ e. ne (e ∙ part_length bs b m k))

  range-part : same_range m bs a bs b ≡ same_at bs a (part_of bs b m)
  unfolding same_range same_at part_of
  range-part =
      rw (part_length bs b m k) (all_alike m _ _ (λ i l. rw (get_or-take m (drop b bs) i 0 l ∙ get_or-drop b bs i 0)))

  pub same_parts : (r : Bool) → n ≡ m → r ≡ same_range n bs a bs b → r ≡ same_bytes (part_of bs a n) (part_of bs b m)
  same_parts r e z =
      same-string bs a n (part_of bs b m) r h (e ∙ sym (part_length bs b m k)) (z ∙ rw e range-part)
