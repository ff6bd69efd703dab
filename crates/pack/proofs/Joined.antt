-- Lists that are made number by number: `each`, an element for each number, and `joined`, bytes for each number. Assumes nothing.
use Prim.Native.Nat.{ℕ, zero, suc, ◌+◌, ◌≤◌, ◌<◌}
use mathlib.Core.Path.{◌≡◌, refl, sym, ap, ◌∙◌}
use mathlib.Core.List.{List, [], ◌∷◌, ◌++◌, append_assoc, append-nil}
use native.Mathlib.Omega.{arith}
use lib.ListN.{length, get_or, length-append, get_or-append}
use lib.Seq.{get_or_at}
use Rattle.format.specs.Bytes.{part_of}
use Rattle.format.proofs.Below.{last_or}
use Rattle.pack.specs.Pack.{each, joined}
use Rattle.format.proofs.Parts.{part-middle, part-between}

-- ---- an element for each number

module _ {A : Type 0} where
  pub each-length : (n : ℕ) (f : ℕ → A) → length (each n f) ≡ n
  unfolding each
  each-length zero f = refl
  each-length (suc n) f = length-append (each n f) (f n ∷ []) ∙ omega (arith, each-length n f)

  pub each_at : (n : ℕ) (f : ℕ → A) (i : ℕ) (d : A) → i < n → get_or (each n f) i d ≡ f i
  unfolding each
  each_at zero f i d h = absurd (omega arith)
  each_at (suc n) f i d h =
      last_or (λ i. get_or (each (suc n) f) i d ≡ f i) h (get_or_at (each n f) (f n) [] d n (each-length n f))
      (λ k. get_or-append (each n f) (f n ∷ []) d i (omega (arith, each-length n f)) ∙ each_at n f i d k)

  -- the same elements
  pub each_same : (n : ℕ) (f g : ℕ → A) → ((i : ℕ) → i < n → f i ≡ g i) → each n f ≡ each n g
  unfolding each
  each_same zero f g h = refl
  each_same (suc n) f g h = rw (each_same n f g (λ i k. h i (omega arith)), h n (omega arith))

-- ---- bytes for each number

pub joined_same : (n : ℕ) (f g : ℕ → List ℕ) → ((i : ℕ) → i < n → f i ≡ g i) → joined n f ≡ joined n g
unfolding joined
joined_same zero f g h = refl
joined_same (suc n) f g h = rw (joined_same n f g (λ i k. h i (omega arith)), h n (omega arith))

-- those before number i, those of i, and the rest
pub record Around (n : ℕ) (f : ℕ → List ℕ) (i : ℕ) : Type 0 where
  pub rest : List ℕ
  pub whole : joined n f ≡ joined i f ++ (f i ++ rest)

pub joined-around : (n : ℕ) (f : ℕ → List ℕ) (i : ℕ) → i < n → Around n f i
unfolding joined
joined-around zero f i h = absurd (omega arith)
joined-around (suc n) f i h =
    last_or (Around (suc n) f) h (record { rest = []; whole = ap (λ l. joined n f ++ l) (sym (append-nil (f n))) })
    (λ k. let r = joined-around n f i k in record {
      rest = r.rest ++ f n;
      whole = rw r.whole (append_assoc (joined i f) (f i ++ r.rest) (f n) ∙ ap (λ l. joined i f ++ l) (append_assoc (f i) r.rest (f n)));
    })

-- starts i is where the bytes of i start, as their lengths say
module _ (f : ℕ → List ℕ) (starts : ℕ → ℕ) (first : starts 0 ≡ 0) where
  pub joined_length : (n : ℕ) → ((i : ℕ) → i < n → starts (suc i) ≡ starts i + length (f i)) → length (joined n f) ≡ starts n
  unfolding joined
  joined_length zero next = sym first
  joined_length (suc n) next = length-append (joined n f) (f n) ∙ omega (arith, joined_length n (λ i k. next i (omega arith)), next n (omega arith))

  module _ (n : ℕ) (next : (i : ℕ) → i < n → starts (suc i) ≡ starts i + length (f i)) (i : ℕ) (h : i < n) where
    start : starts i ≡ length (joined i f)
    start = sym (joined_length i (λ j k. next j (omega arith)))

    -- a part of the bytes of i, and all of them
    pub joined-part : (o m : ℕ) → o + m ≤ length (f i) → part_of (joined n f) (starts i + o) m ≡ part_of (f i) o m
    joined-part o m k =
        let r = joined-around n f i h in
        rw r.whole (part-middle (joined i f) (f i) r.rest (starts i + o) o m (omega (arith, start)) k)

    pub joined_at : part_of (joined n f) (starts i) (length (f i)) ≡ f i
    joined_at = let r = joined-around n f i h in rw r.whole (part-between (joined i f) (f i) r.rest (starts i) (length (f i)) start refl)
