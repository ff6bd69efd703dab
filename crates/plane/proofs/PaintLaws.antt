-- Laws of `paint`, `mark` and `clear`, byte by byte and bit by bit.
use mathlib.Core.Path.{◌≡◌, sym, ap, ap₂, ◌∙◌, fun_ext}
use Prim.Native.Nat.{ℕ, ◌+◌, ◌*◌, ◌-◌, ◌/◌, ◌%◌, ◌^◌, ◌≤◌, ◌<◌}
use native.Mathlib.Nat.{lt_of_lt_of_le, zero-div, div-lt_iff_lt-mul, div-add-mod', mod-lt, le_trans, le-add_right, mul-le-mul_right}
use native.Mathlib.Omega.{arith}
use mathlib.Core.List.{List}
use mathlib.Core.Bool.{Bool, false, cond, ◌&&◌, ◌||◌}
use lib.Arith.{digits_lt, digits_div, digits_mod}
use lib.Dec.{ltb, eqb}
use lib.ListN.{length, get_or, get_or-eq_default}
use lib.Seq.{ext_get_or}
use borrow.Author.Tests.{lt-ltb, le-ltb}
use Rattle.plane.specs.Sums.{tab}
use Rattle.plane.specs.Paint.{bit_in, bit, pack, paint, mark, clear}
use Rattle.plane.proofs.Tests.{by-lt}
use Rattle.plane.proofs.SumLaws.{length-tab, getD-tab, tab-ext, tab-getD}
use Rattle.plane.proofs.BitLaws.{bit-pack, pack-lt, same_bits}

pub zero_bits : (i : ℕ) → bit_in 0 i ≡ false
unfolding bit_in
zero_bits i = ap (λ (x : ℕ). eqb (x % 2) 1) (zero-div (2 ^ (7 - i)))

-- a list by index that past `n` is as another: so it is past the end too
tab-past : (l : List ℕ) (f : ℕ → ℕ) (k : ℕ) → (k < length l → f k ≡ get_or l k 0) → get_or (tab (length l) f) k 0 ≡ get_or l k 0
tab-past l f k e =
    by-lt k (length l) (λ h. getD-tab (length l) f k h ∙ e h)
    (λ h. get_or-eq_default (tab (length l) f) 0 (rw length-tab h) ∙ sym (get_or-eq_default l 0 h))

module _ (n b : ℕ) (on : ℕ → Bool) (px : ℕ → ℕ → ℕ) (t : List ℕ) where
  pub paint-length : length (paint n b on px t) ≡ length t
  unfolding paint
  paint-length = length-tab (length t) _

  pub paint-in : n * b ≤ length t → (p j : ℕ) → p < n → j < b → get_or (paint n b on px t) (p * b + j) 0 ≡ cond (on p) (px p j) (get_or t (p * b + j) 0)
  unfolding paint
  paint-in room p j hp hj =
      getD-tab (length t) _ (p * b + j) (lt_of_lt_of_le (digits_lt hp hj) room)
      ∙ simp (lt-ltb _ _ (digits_lt hp hj), digits_div p hj, digits_mod p hj)

  pub paint-at : (k : ℕ) → k < length t → get_or (paint n b on px t) k 0 ≡ cond (ltb k (n * b) && on (k / b)) (px (k / b) (k % b)) (get_or t k 0)
  unfolding paint
  paint-at k h = getD-tab (length t) _ k h

  pub paint-past : (k : ℕ) → n * b ≤ k → get_or (paint n b on px t) k 0 ≡ get_or t k 0
  unfolding paint
  paint-past k h = tab-past t _ k (λ _. simp (le-ltb _ _ h))

  -- byte j of pixel p, of any pixel that the list has
  pub paint-pixel : (p j : ℕ) → j < b → p * b + j < length t
      → get_or (paint n b on px t) (p * b + j) 0 ≡ cond (ltb p n && on p) (px p j) (get_or t (p * b + j) 0)
  paint-pixel p j hj h =
      let below : ltb (p * b + j) (n * b) ≡ ltb p n =
      by-lt p n (λ l. rw (lt-ltb p n l, lt-ltb (p * b + j) (n * b) (digits_lt l hj)))
      (λ l. rw (le-ltb p n l, le-ltb (p * b + j) (n * b) (le_trans (mul-le-mul_right b l) (le-add_right (p * b) j)))) in
      paint-at (p * b + j) h ∙ (rw (digits_div p hj, digits_mod p hj, below))

  -- a list that at each of its n pixels is as painted, and past them as it was, is the painted one
  pub paint-eq : 1 ≤ b → (t' : List ℕ) → length t' ≡ length t
      → ((p j : ℕ) → p < n → j < b → p * b + j < length t → get_or t' (p * b + j) 0 ≡ cond (on p) (px p j) (get_or t (p * b + j) 0))
      → ((k : ℕ) → n * b ≤ k → k < length t → get_or t' k 0 ≡ get_or t k 0)
      → t' ≡ paint n b on px t
  paint-eq hb t' l e q =
      ext_get_or 0 t' (paint n b on px t) (l ∙ sym paint-length)
      (λ k h. by-lt k (n * b) (in-pixels k (rw l at h)) (λ i. q k i (rw l at h) ∙ sym (paint-past k i)))
    where
      in-pixels : (k : ℕ) → k < length t → k < n * b → get_or t' k 0 ≡ get_or (paint n b on px t) k 0
      in-pixels k h i =
          let p : k / b < n = (div-lt_iff_lt-mul hb).1 i in
          let j = mod-lt k hb in
          let z : k / b * b + k % b < length t = rw (div-add-mod' k b) h in
          rw (div-add-mod' k b) at (e (k / b) (k % b) p j z ∙ sym (paint-pixel (k / b) (k % b) j z ∙ rw (lt-ltb (k / b) n p)))

module _ (n : ℕ) (on : ℕ → Bool) (m : List ℕ) where
  pub mark-length : length (mark n on m) ≡ length m
  unfolding mark
  mark-length = length-tab (length m) _

  pub mark-past : (k : ℕ) → n ≤ 8 * k → get_or (mark n on m) k 0 ≡ get_or m k 0
  unfolding mark
  mark-past k h = tab-past m _ k (λ _. simp (le-ltb _ _ h))

  mark-in : (k : ℕ) → k < length m → 8 * k < n
      → get_or (mark n on m) k 0 ≡ pack (λ i. (ltb (8 * k + i) n && on (8 * k + i)) || bit m (8 * k + i))
  unfolding mark
  mark-in k h l = getD-tab (length m) _ k h ∙ simp (lt-ltb _ _ l)

  pub mark-byte : (k : ℕ) → k < length m → 8 * k < n → get_or (mark n on m) k 0 < 256
  mark-byte k h l = rw (mark-in k h l) (pack-lt _)

  pub mark-bit : (p : ℕ) → p < 8 * length m → bit (mark n on m) p ≡ ((ltb p n && on p) || bit m p)
  unfolding bit
  mark-bit p h =
      by-lt (8 * (p / 8)) n
      (λ l. let e : 8 * (p / 8) + p % 8 ≡ p = omega arith in rw (mark-in (p / 8) (omega arith) l, bit-pack _ (p % 8) (omega arith), e))
      (λ l. rw (mark-past (p / 8) l, le-ltb p n (omega arith)))

module _ (n : ℕ) (m : List ℕ) where
  pub clear-length : length (clear n m) ≡ length m
  unfolding clear
  clear-length = length-tab (length m) _

  pub clear-past : (k : ℕ) → n ≤ 8 * k → get_or (clear n m) k 0 ≡ get_or m k 0
  unfolding clear
  clear-past k h = tab-past m _ k (λ _. simp (le-ltb _ _ h))

  pub clear_in : (k : ℕ) → k < length m → 8 * k < n → get_or (clear n m) k 0 ≡ 0
  unfolding clear
  clear_in k h l = getD-tab (length m) _ k h ∙ simp (lt-ltb _ _ l)

  pub clear-bit : (p : ℕ) → p < 8 * length m → 8 * (p / 8) < n → bit (clear n m) p ≡ false
  unfolding bit
  clear-bit p h l = ap (λ (x : ℕ). bit_in x (p % 8)) (clear_in (p / 8) (omega arith) l) ∙ zero_bits (p % 8)

-- ---- whole maps

-- each of a list's elements is a byte
abbrev pub Bytes : List ℕ → Type 0
Bytes m = (k : ℕ) → get_or m k 0 < 256

-- bit i of byte k of a map
pub cell : (k i : ℕ) → i < 8 → (m : List ℕ) → bit_in (get_or m k 0) i ≡ bit m (8 * k + i)
unfolding bit
cell k i h m = ap₂ (λ (c e : ℕ). bit_in (get_or m c 0) e) (omega arith) (omega arith)

-- two maps with the same bits
pub same_map : (m m' : List ℕ) → length m ≡ length m' → Bytes m → Bytes m' → ((p : ℕ) → p < 8 * length m → bit m p ≡ bit m' p) → m ≡ m'
same_map m m' l h h' e =
    ext_get_or 0 m m' l (λ k b. same_bits _ _ (h k) (h' k) (λ i c. cell k i c m ∙ e (8 * k + i) (omega arith) ∙ sym (cell k i c m')))

pub mark-bytes : (n : ℕ) (on : ℕ → Bool) (m : List ℕ) → Bytes m → Bytes (mark n on m)
mark-bytes n on m h k =
    by-lt (8 * k) n
    (λ a. by-lt k (length m) (λ b. mark-byte n on m k b a)
    (λ b. rw (get_or-eq_default (mark n on m) 0 {n = k} (rw (mark-length n on m) b)) (omega arith)))
    (λ a. rw (mark-past n on m k a) (h k))

-- marking what is set already: the bytes that hold the n bits are packed again, so they have to be bytes
pub mark-noop : (n : ℕ) (on : ℕ → Bool) (m : List ℕ)
    → ((k : ℕ) → 8 * k < n → get_or m k 0 < 256) → ((p : ℕ) → p < n → (on p || bit m p) ≡ bit m p) → mark n on m ≡ m
unfolding mark
mark-noop n on m h e =
    tab-ext (length m) _ _ (λ k _. by-lt (8 * k) n (byte k) (λ l. rw (le-ltb (8 * k) n l))) ∙ sym (tab-getD m)
  where
    same : (p : ℕ) → ((ltb p n && on p) || bit m p) ≡ bit m p
    same p = by-lt p n (λ l. rw (lt-ltb p n l) (e p l)) (λ l. rw (le-ltb p n l))

    byte : (k : ℕ) → 8 * k < n → cond (ltb (8 * k) n) (pack (λ i. (ltb (8 * k + i) n && on (8 * k + i)) || bit m (8 * k + i))) (get_or m k 0) ≡ get_or m k 0
    byte k l =
        rw (lt-ltb (8 * k) n l)
        (same_bits (pack _) (get_or m k 0) (pack-lt _) (h k l) (λ i c. bit-pack _ i c ∙ same (8 * k + i) ∙ sym (cell k i c m)))

-- painting nothing
pub paint-none : (n b : ℕ) (on : ℕ → Bool) (px : ℕ → ℕ → ℕ) (t : List ℕ) → 1 ≤ b → ((p : ℕ) → p < n → on p ≡ false) → paint n b on px t ≡ t
unfolding paint
paint-none n b on px t hb e =
    tab-ext (length t) _ (λ k. get_or t k 0)
    (λ k _. by-lt k (n * b) (λ l. rw (lt-ltb k (n * b) l, e (k / b) ((div-lt_iff_lt-mul hb).1 l))) (λ l. rw (le-ltb k (n * b) l)))
    ∙ sym (tab-getD t)

-- bits are set as the test says below n, whatever it says past them
pub mark-ext : (n : ℕ) (on on' : ℕ → Bool) (m : List ℕ) → ((p : ℕ) → p < n → on p ≡ on' p) → mark n on m ≡ mark n on' m
unfolding mark
mark-ext n on on' m e =
    tab-ext (length m) _ _ (λ k _. ap (λ (f : ℕ → Bool). cond (ltb (8 * k) n) (pack f) (get_or m k 0)) (fun_ext (λ i. rw (same (8 * k + i)))))
  where
    same : (p : ℕ) → (ltb p n && on p) ≡ (ltb p n && on' p)
    same p = by-lt p n (λ l. rw (e p l)) (λ l. rw (le-ltb p n l))
