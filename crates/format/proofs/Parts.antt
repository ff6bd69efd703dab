-- Parts of lists of bytes that stand one behind the other. A place is given by an equation, which `omega` proves. Assumes nothing.
use Prim.Native.Nat.{ℕ, zero, suc, ◌+◌, ◌≤◌, ◌<◌}
use mathlib.Core.Path.{◌≡◌, refl, sym, ap, ◌∙◌}
use mathlib.Core.List.{List, [], ◌∷◌, ◌++◌}
use native.Mathlib.Omega.{arith}
use lib.ListN.{length, get_or, take, drop, length-drop}
use lib.Seq.{length-take-le, take-length, take-append-le, drop-append-le, drop-append-add, take-take, drop-drop, get_or-take, get_or-drop}
use Rattle.format.specs.Bytes.{same_at, part_of}
use Rattle.format.proofs.Below.{all_alike}

-- ---- one part

pub part_length : (bs : List ℕ) (p n : ℕ) → p + n ≤ length bs → length (part_of bs p n) ≡ n
unfolding part_of
part_length bs p n h = let l : n ≤ length (drop p bs) = rw length-drop (omega arith) in length-take-le n (drop p bs) l

-- its byte i
pub part_at : (bs : List ℕ) (p n i : ℕ) → i < n → get_or (part_of bs p n) i 0 ≡ get_or bs (p + i) 0
unfolding part_of
part_at bs p n i h = get_or-take n (drop p bs) i 0 h ∙ get_or-drop p bs i 0

-- all of a list
pub part-all : (xs : List ℕ) (n : ℕ) → n ≡ length xs → part_of xs 0 n ≡ xs
unfolding part_of
part-all xs n e = rw e (take-length xs)

-- ---- a part of a part

take_in : (n o m : ℕ) (l : List ℕ) → o + m ≤ n → take m (drop o (take n l)) ≡ take m (drop o l)
take_in n zero m l h = take-take m n l (omega arith)
take_in zero (suc o) m l h = absurd (omega arith)
take_in (suc n) (suc o) m [] h = refl
take_in (suc n) (suc o) m (x ∷ xs) h = take_in n o m xs (omega arith)

pub part-part : (bs : List ℕ) (p n o m : ℕ) → o + m ≤ n → part_of (part_of bs p n) o m ≡ part_of bs (p + o) m
unfolding part_of
part-part bs p n o m h = take_in n o m (drop p bs) h ∙ ap (take m) (drop-drop o p bs)

-- equal bytes have equal parts
pub parts-agree : (ds : List ℕ) (a : ℕ) (bs : List ℕ) (b n o m : ℕ) → part_of ds a n ≡ part_of bs b n → o + m ≤ n → part_of ds (a + o) m ≡ part_of bs (b + o) m
parts-agree ds a bs b n o m e h = sym (part-part ds a n o m h) ∙ ap (λ l. part_of l o m) e ∙ part-part bs b n o m h

-- ---- a part of two lists: of the first, of the second

module _ (xs ys : List ℕ) where
  pub part-front : (o m : ℕ) → o + m ≤ length xs → part_of (xs ++ ys) o m ≡ part_of xs o m
  unfolding part_of
  part-front o m h =
      let l : o ≤ length xs = omega arith in
      let k : m ≤ length (drop o xs) = rw length-drop (omega arith) in
      rw (drop-append-le o xs ys l) (take-append-le m (drop o xs) ys k)

  pub part-back : (p o m : ℕ) → p ≡ length xs + o → part_of (xs ++ ys) p m ≡ part_of ys o m
  unfolding part_of
  part-back p o m e = rw e (ap (take m) (drop-append-add xs ys o))

-- ---- a part of three lists: of the second, and all of it

module _ (xs ys zs : List ℕ) where
  pub part-middle : (p o m : ℕ) → p ≡ length xs + o → o + m ≤ length ys → part_of (xs ++ (ys ++ zs)) p m ≡ part_of ys o m
  part-middle p o m e h = part-back xs (ys ++ zs) p o m e ∙ part-front ys zs o m h

  pub part-between : (p n : ℕ) → p ≡ length xs → n ≡ length ys → part_of (xs ++ (ys ++ zs)) p n ≡ ys
  part-between p n e f = part-middle p 0 n (omega arith) (omega arith) ∙ part-all ys n f

-- ---- a byte string in equal parts

pub same-agrees : (ds : List ℕ) (a : ℕ) (bs : List ℕ) (b n : ℕ) (xs : List ℕ) → part_of ds a n ≡ part_of bs b n → length xs ≤ n → same_at ds a xs ≡ same_at bs b xs
unfolding same_at
same-agrees ds a bs b n xs e h =
    all_alike (length xs) _ _ (λ i k.
    let j : i < n = omega arith in
    let same : get_or ds (a + i) 0 ≡ get_or bs (b + i) 0 = sym (part_at ds a n i j) ∙ ap (λ l. get_or l i 0) e ∙ part_at bs b n i j in
    rw same)
