-- The chunks' rows accept exactly where chunks fill the attachment and at most one of them is a mask. Assumes nothing.
use Prim.Native.Nat.{ℕ, zero, suc, ◌+◌, ◌≤◌, ◌<◌, suc-le-suc, zero-le}
use mathlib.Core.Path.{◌≡◌, refl, sym, ap, ◌∙◌}
use mathlib.Core.List.{List, [], ◌∷◌}
use mathlib.Core.Bool.{Bool, true, false, ◌||◌, or-true, true≢false}
use native.Mathlib.Omega.{arith}
use lib.ListN.{length, get_or}
use lib.Dec.{ltb}
use borrow.Author.Tests.{lt-ltb, le-ltb, ltb-false}
use Rattle.format.specs.Bytes.{any_of}
use Rattle.format.specs.Checks.{first}
use Rattle.format.specs.Masks.{chunk_size, next_chunk, chunk_bad, is_mask, mask_bad, mask_refused, chunk_rows, chunks_rows}
use Rattle.format.specs.WellFormed.{Chain, Each, Chunks}
use Rattle.format.specs.Checks.{Accepted}
use Rattle.format.proofs.Below.{by_bool, none, or-none}
use Rattle.format.proofs.Firsts.{first-both, first-pass, passed}
use Rattle.format.proofs.Members.{each_more}

-- ---- refusals 17 and 18 are not given to the chunk at c

pub chunk-fits : (bs : List ℕ) (end c : ℕ) → chunk_bad bs end c ≡ false → (c + 20 ≤ end) × (c + 20 + chunk_size bs c ≤ end)
unfolding chunk_bad next_chunk
chunk-fits bs end c e = (ltb-false _ _ (none _ e 0), ltb-false _ _ (none _ e 2))

module _ (bs : List ℕ) (end : ℕ) (seen : Bool) (c : ℕ) where
  -- neither 17 nor 18
  pub record Chunked : Type 0 where
    pub header : c + 20 ≤ end
    pub payload : c + 20 + chunk_size bs c ≤ end
    pub chunk : chunk_bad bs end c ≡ false
    pub mask : is_mask bs c ≡ true → (seen ≡ false) × (mask_bad bs c ≡ false)

  pub chunk-ok : first (chunk_rows bs end seen c) ≡ Accepted → Chunked
  unfolding chunk_rows mask_refused
  chunk-ok e =
      let g = passed (chunk_rows bs end seen c) e in
      let f = chunk-fits bs end c (g 0) in
      record {
        header = f.0;
        payload = f.1;
        chunk = g 0;
        mask = λ m. let f : any_of (seen ∷ mask_bad bs c ∷ []) ≡ false = rw m at (g 1) in (none _ f 0, none _ f 1);
      }

  pub chunk-accepted : chunk_bad bs end c ≡ false → (is_mask bs c ≡ true → (seen ≡ false) × (mask_bad bs c ≡ false)) → first (chunk_rows bs end seen c) ≡ Accepted
  unfolding chunk_rows mask_refused any_of
  chunk-accepted a h = rw a (by_bool (is_mask bs c) (λ m. let b = h m in rw (m, b.0, b.1)) (λ m. rw m))

pub next-chunk-is : (bs : List ℕ) (c : ℕ) → next_chunk bs c ≡ c + 20 + chunk_size bs c
unfolding next_chunk
next-chunk-is bs c = refl

-- ---- the walk

-- the chunks l from c on fill what is left up to end; `seen`: there was a mask before
pub record Left (bs : List ℕ) (end : ℕ) (seen : Bool) (c : ℕ) (l : List ℕ) : Type 0 where
  pub fill : Chain (next_chunk bs) c end l
  pub chunk : Each (λ c. chunk_bad bs end c ≡ false) l
  pub mask : Each (λ c. is_mask bs c ≡ true → mask_bad bs c ≡ false) l
  pub one : (i j : ℕ) → i < length l → j < length l → is_mask bs (get_or l i 0) ≡ true → is_mask bs (get_or l j 0) ≡ true → i ≡ j
  pub unseen : Each (λ c. is_mask bs c ≡ true → seen ≡ false) l

module _ (bs : List ℕ) (end : ℕ) where
  none_left : (seen : Bool) (c : ℕ) → c ≡ end → Left bs end seen c []
  none_left seen c e =
      record {
        fill = e;
        chunk = λ i h. absurd (omega arith);
        mask = λ i h. absurd (omega arith);
        one = λ i j h. absurd (omega arith);
        unseen = λ i h. absurd (omega arith);
      }

  more_left : (seen : Bool) (c : ℕ) (l : List ℕ) → Chunked bs end seen c → Left bs end (seen || is_mask bs c) (next_chunk bs c) l → Left bs end seen c (c ∷ l)
  more_left seen c l k r =
      record {
        fill = (refl, r.fill);
        chunk = each_more (λ c. chunk_bad bs end c ≡ false) c l k.chunk r.chunk;
        mask = each_more (λ c. is_mask bs c ≡ true → mask_bad bs c ≡ false) c l (λ m. (k.mask m).1) r.mask;
        one = one;
        unseen = each_more (λ c. is_mask bs c ≡ true → seen ≡ false) c l (λ m. (k.mask m).0) (λ i h m. (or-none seen (is_mask bs c) (r.unseen i h m)).0);
      }
    where
      -- a mask here: none later
      alone : (i : ℕ) → i < length l → is_mask bs c ≡ true → is_mask bs (get_or l i 0) ≡ true → ⊥
      alone i h m k = true≢false (sym (rw m (or-true seen)) ∙ r.unseen i h k)

      one : (i j : ℕ) → i < length (c ∷ l) → j < length (c ∷ l) → is_mask bs (get_or (c ∷ l) i 0) ≡ true → is_mask bs (get_or (c ∷ l) j 0) ≡ true → i ≡ j
      one zero zero h k m u = refl
      one zero (suc j) h k m u = absurd (alone j (omega arith) m u)
      one (suc i) zero h k m u = absurd (alone i (omega arith) u m)
      one (suc i) (suc j) h k m u = ap suc (r.one i j (omega arith) (omega arith) m u)

  -- each chunk takes 20 bytes or more, so that n of them are enough for n bytes
  pub chunks-left : (n : ℕ) (seen : Bool) (c : ℕ) → c ≤ end → end ≤ c + n → first (chunks_rows n bs end seen c) ≡ Accepted → (l : List ℕ) × Left bs end seen c l
  unfolding chunks_rows
  chunks-left zero seen c h k e = ([], none_left seen c (omega arith))
  chunks-left (suc n) seen c h k e =
      by_bool (ltb c end)
      (λ f.
      let both = first-both (chunk_rows bs end seen c) (chunks_rows n bs end (seen || is_mask bs c) (next_chunk bs c)) (rw f at e) in
      let ok = chunk-ok bs end seen c both.0 in
      let next = next-chunk-is bs c in
      let r = chunks-left n (seen || is_mask bs c) (next_chunk bs c) (omega (arith, ok.payload)) (omega arith) both.1 in
      (c ∷ r.0, more_left seen c r.0 ok r.1))
      (λ f. ([], none_left seen c (omega (arith, ltb-false c end f))))

  -- what is left behind the first chunk
  left-next : (seen : Bool) (q c : ℕ) (l : List ℕ) → Left bs end seen c (q ∷ l) → Left bs end (seen || is_mask bs q) (next_chunk bs q) l
  left-next seen q c l r =
      record {
        fill = r.fill.1;
        chunk = λ i h. r.chunk (suc i) (suc-le-suc h);
        mask = λ i h. r.mask (suc i) (suc-le-suc h);
        one = λ i j h k m u. let e : suc i ≡ suc j = r.one (suc i) (suc j) (suc-le-suc h) (suc-le-suc k) m u in omega arith;
        unseen = λ i h m. rw (r.unseen (suc i) (suc-le-suc h) m) (alone i h m);
      }
    where
      alone : (i : ℕ) → i < length l → is_mask bs (get_or l i 0) ≡ true → is_mask bs q ≡ false
      alone i h m =
          by_bool (is_mask bs q)
          (λ e. let z : 0 ≡ suc i = r.one 0 (suc i) (suc-le-suc zero-le) (suc-le-suc h) e m in absurd (omega arith))
          (λ e. e)

  pub left-chunks : (l : List ℕ) (n : ℕ) (seen : Bool) (c : ℕ) → end ≤ c + n → Left bs end seen c l → first (chunks_rows n bs end seen c) ≡ Accepted
  unfolding chunks_rows
  left-chunks [] zero seen c h r = refl
  left-chunks [] (suc n) seen c h r = rw (le-ltb c end (omega (arith, r.fill)))
  left-chunks (q ∷ l) zero seen c h r = absurd (omega (arith, r.fill.0, (chunk-fits bs end q (r.chunk 0 (suc-le-suc zero-le))).0))
  left-chunks (q ∷ l) (suc n) seen c h r =
      let z : 0 < length (q ∷ l) = suc-le-suc zero-le in
      let a = chunk-accepted bs end seen q (r.chunk 0 z) (λ m. (r.unseen 0 z m, r.mask 0 z m)) in
      let k : q < end = omega (arith, (chunk-fits bs end q (r.chunk 0 z)).0) in
      let ih = left-chunks l n (seen || is_mask bs q) (next_chunk bs q) (omega (arith, next-chunk-is bs q, r.fill.0)) (left-next seen q c l r) in
      rw (← r.fill.0, lt-ltb q end k) (first-pass (chunk_rows bs end seen q) _ a ∙ ih)

-- ---- an attachment of n bytes from a on

pub chunks-ok : (bs : List ℕ) (n a : ℕ) → first (chunks_rows n bs (a + n) false a) ≡ Accepted → Chunks bs a (a + n)
chunks-ok bs n a e =
    let r = chunks-left bs (a + n) n false a (omega arith) (omega arith) e in
    record { chunks = r.0; fill = r.1.fill; chunk = r.1.chunk; mask = r.1.mask; one = r.1.one }

pub chunks-accepted : (bs : List ℕ) (n a : ℕ) → Chunks bs a (a + n) → first (chunks_rows n bs (a + n) false a) ≡ Accepted
chunks-accepted bs n a r =
    left-chunks bs (a + n) r.chunks n false a (omega arith)
    (record { fill = r.fill; chunk = r.chunk; mask = r.mask; one = r.one; unseen = λ i h m. refl })
