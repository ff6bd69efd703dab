-- Laws of bytes put into a lent buffer: their lengths, one piece behind another, one byte more, and a part that was lent on. Assumes nothing.
use Prim.Native.Nat.{ℕ, suc, ◌+◌, ◌-◌, ◌/◌, ◌%◌, ◌≤◌, ◌<◌}
use mathlib.Core.Path.{◌≡◌, refl, sym, ap, ◌∙◌}
use mathlib.Core.List.{List, [], ◌∷◌, ◌++◌, append_assoc}
use native.Mathlib.Nat.{add-zero}
use native.Mathlib.Numerals.{add-one}
use native.Mathlib.Omega.{arith}
use lib.ListN.{length, take, drop, set, replicate, length-replicate, length-append, length-drop, take-append-drop}
use lib.Seq.{length-take-le, take_at, drop_at, drop-drop, set_split}
use borrow.Rule.Slice.PartMut.{put_mid, Post-is}
use Rattle.format.specs.Bytes.{part_of}
use Rattle.std.specs.Int.{w64, to_le_bytes}
use Rattle.std.proofs.lemmas.List.{places}
use borrow.Author.Rules.{rules}
use Rattle.pack.specs.Pack.{bytes_of, long, zeros}
use Rattle.pack.specs.Put.{put}
use Rattle.pack.proofs.Numbers.{bytes-length, long-is}

-- ---- a put

pub put-none : (u : List ℕ) (p : ℕ) → put u p [] ≡ u
unfolding put
put-none u p = rw (add-zero p) (take-append-drop p u)

-- what stands before the end of a put: the bytes before p, then those put
front_length : (u xs : List ℕ) (p n : ℕ) → length xs ≡ n → p + n ≤ length u → length (take p u ++ xs) ≡ p + n
front_length u xs p n e h = length-append (take p u) xs ∙ rw (length-take-le p u (omega arith), e)

module _ (u xs : List ℕ) (p : ℕ) (h : p + length xs ≤ length u) where
  put_front : put u p xs ≡ (take p u ++ xs) ++ drop (p + length xs) u
  unfolding put
  put_front = sym (append_assoc (take p u) xs _)

  pub put-length : length (put u p xs) ≡ length u
  put-length =
      ap length put_front ∙ length-append (take p u ++ xs) _
      ∙ rw (front_length u xs p (length xs) refl h, length-drop (p + length xs) u) (omega arith)

  take_put : take (p + length xs) (put u p xs) ≡ take p u ++ xs
  take_put = ap (take (p + length xs)) put_front ∙ take_at (take p u ++ xs) _ _ (front_length u xs p (length xs) refl h)

  drop-put : (k : ℕ) → drop (p + length xs + k) (put u p xs) ≡ drop (p + length xs + k) u
  drop-put k =
      sym (drop-drop k (p + length xs) (put u p xs))
      ∙ ap (drop k) (ap (drop (p + length xs)) put_front ∙ drop_at (take p u ++ xs) _ _ (front_length u xs p (length xs) refl h))
      ∙ drop-drop k (p + length xs) u

  -- a put right behind another
  pub put_then : (ys : List ℕ) → put (put u p xs) (p + length xs) ys ≡ put u p (xs ++ ys)
  unfolding put
  put_then ys =
      let e : p + length (xs ++ ys) ≡ p + length xs + length ys = rw (length-append xs ys) (omega arith) in
      rw (take_put, drop-put (length ys), e) (append_assoc (take p u) xs _ ∙ ap (take p u ++◌) (sym (append_assoc xs ys _)))

-- ---- one byte more, in front of others

pub put_one : (u : List ℕ) (p x : ℕ) → p < length u → set u p x ≡ put u p (x ∷ [])
unfolding put
put_one u p x h = rw (add-one p) (set_split u p x h)

pub put-cons : (u : List ℕ) (p x : ℕ) (xs : List ℕ) → p < length u → put (set u p x) (p + 1) xs ≡ put u p (x ∷ xs)
put-cons u p x xs h = rw (put_one u p x h) (put_then u (x ∷ []) p (omega arith) xs)

-- ---- n bytes, of which i are put: none yet, one more, all

pub zeros-start : (u : List ℕ) (p n : ℕ) → put u (p + 0) (zeros (n - 0)) ≡ put u p (zeros n)
zeros-start u p n = let e : n - 0 ≡ n = omega arith in rw (add-zero p, e)

module _ (u : List ℕ) (p i n : ℕ) (h : p + i < length u) (l : i < n) where
  left-next : n - i ≡ suc (n - (i + 1))
  left-next = omega arith

  left-put : (x : ℕ) (xs : List ℕ) → put u (p + i) (x ∷ xs) ≡ put (set u (p + i) x) (p + (i + 1)) xs
  left-put x xs = let e : p + (i + 1) ≡ p + i + 1 = omega arith in rw e (sym (put-cons u (p + i) x xs h))

  pub zeros-next : put u (p + i) (zeros (n - i)) ≡ put (set u (p + i) 0) (p + (i + 1)) (zeros (n - (i + 1)))
  unfolding zeros
  zeros-next = rw left-next (left-put 0 _)

  pub bytes_next : (x : ℕ) → put u (p + i) (bytes_of (n - i) x) ≡ put (set u (p + i) (x % 256)) (p + (i + 1)) (bytes_of (n - (i + 1)) (x / 256))
  unfolding bytes_of
  bytes_next x = rw left-next (left-put (x % 256) _)

module _ (u : List ℕ) (p i n : ℕ) (h : n ≤ i) where
  left-none : n - i ≡ 0
  left-none = omega arith

  pub zeros-end : put u (p + i) (zeros (n - i)) ≡ u
  unfolding zeros
  zeros-end = rw left-none (put-none u (p + i))

  pub bytes-end : (x : ℕ) → put u (p + i) (bytes_of (n - i) x) ≡ u
  unfolding bytes_of
  bytes-end x = rw left-none (put-none u (p + i))

-- ---- a part of the buffer that was lent on, and is back as ys

pub put-part : (u ys : List ℕ) (p e : ℕ) → p ≤ e → length ys ≡ e - p → put_mid p (e - p) u ys ≡ put u p ys
unfolding put
put-part u ys p e h l =
    let f : e ≡ p + length ys = omega arith in
    ap (λ (z : List ℕ). take p u ++ (ys ++ z)) (Post-is p e u h ∙ ap (λ (i : ℕ). drop i u) f)

-- the n bytes from p on, when they became those of xs
put_here : (u ys xs : List ℕ) (p n : ℕ) → ys ≡ xs → length xs ≡ n → put_mid p (p + n - p) u ys ≡ put u p xs
put_here u ys xs p n e l = put-part u ys p (p + n) (omega arith) (ap length e ∙ l ∙ omega arith) ∙ ap (put u p) e

pub zeros_here : (u ys : List ℕ) (p n : ℕ) → p + n ≤ length u → ys ≡ replicate (length (take (p + n - p) (drop p u))) 0
    → put_mid p (p + n - p) u ys ≡ put u p (zeros n)
unfolding zeros
zeros_here u ys p n h e =
    let l : length (take (p + n - p) (drop p u)) ≡ n = search (rules, places) in
    put_here u ys (replicate n 0) p n (e ∙ ap (λ (k : ℕ). replicate k 0) l) (length-replicate n 0)

pub part_here : (u s ys : List ℕ) (p q n : ℕ) → q + n ≤ length s → ys ≡ take (q + n - q) (drop q s) → put_mid p (p + n - p) u ys ≡ put u p (part_of s q n)
unfolding part_of
part_here u s ys p q n h e =
    let f : q + n - q ≡ n = omega arith in
    put_here u ys (take n (drop q s)) p n (e ∙ ap (λ (k : ℕ). take k (drop q s)) f) (search (rules, places))

pub long_here : (u ys : List ℕ) (p x : ℕ) → ys ≡ to_le_bytes w64 x → put_mid p (p + 8 - p) u ys ≡ put u p (long x)
long_here u ys p x e = put_here u ys (long x) p 8 (e ∙ long-is x) (bytes-length 8 x)

-- ---- pieces put one behind the other

-- v is u with the n bytes xs from p on
pub record Puts (u : List ℕ) (p : ℕ) (v : List ℕ) (n : ℕ) (xs : List ℕ) : Type 0 where
  pub size : length xs ≡ n
  pub is : v ≡ put u p xs

module _ {u : List ℕ} {p : ℕ} where
  pub puts_first : (v xs : List ℕ) (n : ℕ) → v ≡ put u p xs → length xs ≡ n → Puts u p v n xs
  puts_first v xs n e l = record { size = l; is = e }

  -- ys right behind xs
  pub puts-next : {v : List ℕ} {n : ℕ} {xs : List ℕ} → Puts u p v n xs → (w ys : List ℕ) (q m : ℕ) → w ≡ put v q ys → length ys ≡ m → q ≡ p + n
      → p + n ≤ length u → Puts u p w (n + m) (xs ++ ys)
  puts-next {v} {n} {xs} b w ys q m e l f h = record {
    size = length-append xs ys ∙ rw (b.size, l);
    is =
        let g : q ≡ p + length xs = omega (arith, b.size) in
        e ∙ rw (b.is, g) (put_then u xs p (omega (arith, b.size)) ys);
  }
