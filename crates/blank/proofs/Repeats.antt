-- A pixel's bytes repeated: what lies whole pixels back is the same.
use mathlib.Core.Path.{◌≡◌, refl, sym, ap, ◌∙◌}
use Prim.Native.Nat.{ℕ, ◌+◌, ◌*◌, ◌-◌, ◌/◌, ◌%◌, ◌≤◌, ◌<◌, min}
use native.Mathlib.Nat.{add_assoc, zero-mul, mul-le-mul_right, one-mul, add-mod_left, mod-lt, mod-eq_of_lt}
use native.Mathlib.Omega.{arith}
use mathlib.Core.List.{List, ◌++◌}
use borrow.Author.Rules.{rules}
use Rattle.std.proofs.lemmas.List.{places}
use Rattle.std.proofs.lemmas.Grind.{common_steps}
use mathlib.Core.Bool.{true, cond}
use lib.Dec.{leb}
use lib.ListN.{length, get_or, take, drop}
use borrow.Author.Tests.{leb-true}
use Rattle.plane.specs.Paint.{paint}
use Rattle.plane.proofs.Tests.{cond-case, by-lt}
use Rattle.copies.specs.Copied.{block_size}
use Rattle.blank.specs.Front.{front, Alike}
use Rattle.blank.proofs.Front.{front-none, front_put, front_length, front-in, front-past, front-is, front-fill}

-- ---- periods

-- f is the same k further on
abbrev Period : (ℕ → ℕ) → ℕ → Type 0
Period f k = (i : ℕ) → f (k + i) ≡ f i

period-sum : (f : ℕ → ℕ) (k w : ℕ) → Period f k → Period f w → Period f (k + w)
period-sum f k w p q i = ap f (add_assoc k w i) ∙ p (w + i) ∙ q i

-- the next step's width
wider-bounds : (w r : ℕ) → r ≡ cond (leb w (block_size / 2)) (w + w) w → w ≤ block_size → (w ≤ r) × (r ≤ w + w) × (r ≤ block_size)
wider-bounds w r e h =
    rw e (cond-case (λ x. (w ≤ x) × (x ≤ w + w) × (x ≤ block_size)) (leb w (block_size / 2))
    (λ l. (omega arith, omega arith, omega (arith, leb-true w (block_size / 2) l))) (λ l. (omega arith, omega arith, h)))

period-wider : (f : ℕ → ℕ) (w r : ℕ) → r ≡ cond (leb w (block_size / 2)) (w + w) w → Period f w → Period f r
period-wider f w r e p = rw e (cond-case (Period f) (leb w (block_size / 2)) (λ l. period-sum f w w p p) (λ l. p))

period-bytes : (t : List ℕ) (b : ℕ) → Period (λ i. get_or t (i % b) 0) b
period-bytes t b i = ap (λ (j : ℕ). get_or t j 0) (add-mod_left b i)

-- ---- the first b bytes of t repeated

repeat-start : (t : List ℕ) (b : ℕ) → t ≡ front (λ i. get_or t (i % b) 0) b t
repeat-start t b = front-is _ b t t refl (λ i h l. ap (λ (j : ℕ). get_or t j 0) (sym (mod-eq_of_lt l))) (λ i h l. refl)

-- ---- the first n of q's bytes copied to those from number k on

abbrev Recopied : List ℕ → ℕ → ℕ → List ℕ
Recopied q k n = take k q ++ (take n (take k q) ++ drop n (drop k q))

module _ (q : List ℕ) (k n : ℕ) (h : n ≤ k) (l : k + n ≤ length q) where
  recopied-length : length (Recopied q k n) ≡ length q
  recopied-length = grind (arith, common_steps)

  recopied-below : (i : ℕ) → i < k → get_or (Recopied q k n) i 0 ≡ get_or q i 0
  recopied-below i u = search (rules, places)

  recopied-in : (i : ℕ) → k ≤ i → i < k + n → get_or (Recopied q k n) i 0 ≡ get_or q (i - k) 0
  recopied-in i u v = search (rules, places)

  recopied-past : (i : ℕ) → k + n ≤ i → get_or (Recopied q k n) i 0 ≡ get_or q i 0
  recopied-past i u = search (rules, places)

repeat-more : (f : ℕ → ℕ) (k n : ℕ) (t : List ℕ) → Period f k → n ≤ k → k + n ≤ length t → Recopied (front f k t) k n ≡ front f (k + n) t
repeat-more f k n t p h l =
    let q : List ℕ = front f k t in
    let same : length q ≡ length t = front_length f k t in
    let l' : k + n ≤ length q = omega arith in
    front-is f (k + n) t (Recopied q k n) (recopied-length q k n h l' ∙ same)
    (λ i b g.
    by-lt i k (λ u. recopied-below q k n h l' i u ∙ front-in f k t i b u)
    (λ u. recopied-in q k n h l' i u g ∙ front-in f k t (i - k) (omega arith) (omega arith) ∙ sym (p (i - k)) ∙ ap f (omega arith)))
    (λ i b g. recopied-past q k n h l' i g ∙ front-past f k t i b (omega arith))

-- the first k bytes of t are repeated in r; the next step's width w is a period of them, and so is k until the end
pub record Repeating (t : List ℕ) (b end : ℕ) (r : List ℕ) (w k : ℕ) : Type 0 where
  pub some : 1 ≤ w
  pub most : w ≤ block_size
  pub known : k < end → w ≤ k
  pub room : k ≤ end
  pub step : Period (λ i. get_or t (i % b) 0) w
  pub place : k < end → Period (λ i. get_or t (i % b) 0) k
  pub bytes : r ≡ front (λ i. get_or t (i % b) 0) k t
  pub same : length r ≡ length t

pub repeating-start : {t : List ℕ} {b end : ℕ} → 1 ≤ b → b ≤ block_size → b ≤ end → Repeating t b end t b b
repeating-start {t} {b} l m h = record {
  some = l;
  most = m;
  known = λ _. omega arith;
  room = h;
  step = period-bytes t b;
  place = λ _. period-bytes t b;
  bytes = repeat-start t b;
  same = refl;
}

-- the next n bytes, and the next step's width w'
pub repeating-next : {t : List ℕ} {b end : ℕ} {r : List ℕ} {w k : ℕ} → Repeating t b end r w k → end ≤ length t → k < end
    → {n : ℕ} → n ≡ min w (end - k) → {done rest copy : List ℕ} → done ≡ take k r → rest ≡ drop k r → copy ≡ take n done
    → {w' : ℕ} → w' ≡ cond (leb w (block_size / 2)) (w + w) w → Repeating t b end (done ++ (copy ++ drop n rest)) w' (k + n)
repeating-next {t} {b} {r = r} {w} {k} v l h {n} m {done} {rest} {copy} d e c {w'} g =
    let x = wider-bounds w w' g v.most in
    let known : w ≤ k = v.known h in
    let some = v.some in
    let room = v.room in
    let bytes : done ++ (copy ++ drop n rest) ≡ front (λ i. get_or t (i % b) 0) (k + n) t = rw (c, d, e, v.bytes) (repeat-more _ k n t (v.place h) (omega arith) (omega arith)) in
    record {
      some = omega arith;
      most = x.2;
      known = λ q. omega arith;
      room = omega arith;
      step = period-wider _ w w' g v.step;
      place = λ q. let y : n ≡ w = omega arith in rw y (period-sum _ k w (v.place h) v.step);
      bytes = bytes;
      same = ap length bytes ∙ front_length _ (k + n) t;
    }

-- the end
pub repeating-end : {t : List ℕ} {b end : ℕ} {r : List ℕ} {w k : ℕ} → Repeating t b end r w k → end ≤ k → r ≡ front (λ i. get_or t (i % b) 0) end t
repeating-end {t} {b} {end} {r} {w} {k} v h =
    let e : k ≡ end = omega (arith, v.room) in
    v.bytes ∙ ap (λ (j : ℕ). front (λ i. get_or t (i % b) 0) j t) e

-- ---- the background, n pixels of b bytes

pub pixel-fits : (n b : ℕ) → 1 ≤ n → b ≤ n * b
pixel-fits n b m = rw one-mul at (mul-le-mul_right b m)

module _ (n b : ℕ) (bg t r : List ℕ) (one : 1 ≤ b) (pixel : length bg ≡ b) where
  pub fill-uniform : Alike bg (length bg) → r ≡ front (λ i. get_or bg 0 0) (n * b) t → r ≡ paint n b (λ p. true) (λ p j. get_or bg j 0) t
  fill-uniform u e =
      front-is (λ i. get_or bg (i % b) 0) (n * b) t r (ap length e ∙ front_length _ (n * b) t)
      (λ i h l. rw e (front-in _ (n * b) t i h l ∙ sym (u (i % b) (rw pixel (mod-lt i one)))))
      (λ i h l. rw e (front-past _ (n * b) t i h l))
      ∙ front-fill n b bg t

  -- the first pixel put in, and repeated
  pub fill-repeat : (ys : List ℕ) → 1 ≤ n → n * b ≤ length t → ys ≡ bg → r ≡ front (λ i. get_or (ys ++ drop b t) (i % b) 0) (n * b) (ys ++ drop b t)
      → r ≡ paint n b (λ p. true) (λ p j. get_or bg j 0) t
  fill-repeat ys m room e g =
      let fits = pixel-fits n b m in
      let t₁ : List ℕ = ys ++ drop b t in
      let put : t₁ ≡ front (λ i. get_or bg i 0) b t = front_put _ b t ys (omega arith) (rw e pixel) (λ i h. rw e refl) in
      let same : length t₁ ≡ length t = ap length put ∙ front_length _ b t in
      front-is (λ i. get_or bg (i % b) 0) (n * b) t r (ap length g ∙ front_length _ (n * b) t₁ ∙ same)
      (λ i h l. let j = mod-lt i one in
      rw g (front-in _ (n * b) t₁ i (rw same h) l ∙ ap (λ (x : List ℕ). get_or x (i % b) 0) put ∙ front-in _ b t (i % b) (omega arith) j))
      (λ i h l. rw g (front-past _ (n * b) t₁ i (rw same h) l ∙ ap (λ (x : List ℕ). get_or x i 0) put ∙ front-past _ b t i h (omega arith)))
      ∙ front-fill n b bg t

pub fill_none : (n b : ℕ) (bg t : List ℕ) → n ≡ 0 → t ≡ paint n b (λ p. true) (λ p j. get_or bg j 0) t
fill_none n b bg t z =
    let e : 0 ≡ n * b = rw (z, zero-mul) in
    sym (front-none _ t) ∙ ap (λ (k : ℕ). front (λ i. get_or bg (i % b) 0) k t) e ∙ front-fill n b bg t
