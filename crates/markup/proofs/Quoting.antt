-- A start tag's bytes, by the byte before: one by one outside quotes, and at once what a quote encloses; then all one by one, by the quote that is open.
use Rattle.std.proofs.Common.{◌≡◌, refl, sym, ap, ◌∙◌, ℕ, suc, zero, ◌+◌, ◌-◌, ◌<◌, ◌≤◌, Bool, true, false, List, [], ◌∷◌, length, take, drop, get_or, arith, add-one, drop-cons, length-drop, nat_eq, ltb}
use Rattle.std.proofs.Math.Option as Math
use Rattle.std.proofs.Math.Option.{Option-elim}
use Rattle.std.proofs.Math.ListN.{drop_of_length-le}
use Rattle.format.specs.Markup.{behind_tag, behind_first, begins, quote, quote_after}
use Rattle.format.specs.Bytes.{any_of}
use Rattle.format.proofs.Below.{by_bool}
use lib.Seq.{take_all}
use Rattle.std.proofs.Math.Dec.{eqb-suc-zero}
use borrow.Author.Tests.{eqb-true, eq-eqb, ne_eqb}

-- a byte, and those behind it
module _ (bs : List ℕ) (i : ℕ) (less : i < length bs) where
  one : drop i bs ≡ get_or bs i 0 ∷ drop (i + 1) bs
  one = rw (add-one, drop-cons bs i 0 less)

  rest-of : take (length bs - (i + 1)) (drop (i + 1) bs) ≡ drop (i + 1) bs
  rest-of = take_all (length bs - (i + 1)) (drop (i + 1) bs) (omega (arith, length-drop (i + 1) bs))

-- ---- the quote that closes a stretch, looked for from a place on
module _ (q : ℕ) (bs : List ℕ) (i : ℕ) (less : i < length bs) where
  pub quote-closes : get_or bs i 0 ≡ q → Math.some (take (length bs - (i + 1)) (drop (i + 1) bs)) ≡ behind_first (q ∷ []) (drop i bs)
  unfolding behind_first begins
  quote-closes h = rw (one bs i less, rest-of bs i less, eq-eqb (get_or bs i 0) q h)

  pub quote-later : (get_or bs i 0 ≡ q → ⊥) → behind_first (q ∷ []) (drop i bs) ≡ behind_first (q ∷ []) (drop (i + 1) bs)
  unfolding behind_first begins
  quote-later h = rw (one bs i less, ne_eqb (get_or bs i 0) q h)

-- what stands behind it is shorter
pub quote-shorter : (q : ℕ) (bs rest : List ℕ) → Math.some rest ≡ behind_first (q ∷ []) bs → length rest < length bs
unfolding behind_first begins
quote-shorter q [] rest h = cc
quote-shorter q (b ∷ bs) rest h =
    by_bool (nat_eq b q)
    (λ e. let s : Math.some rest ≡ Math.some bs = h ∙ rw e in let r : rest ≡ bs = cc in rw r (omega arith))
    (λ e. let l : length rest < length bs = quote-shorter q bs rest (h ∙ rw e) in omega arith)

-- ---- a byte of the tag outside quotes

-- within a quote, the tag goes on behind the byte that closes it
within : (q last : ℕ) (bs : List ℕ) → nat_eq q 0 ≡ false
    → behind_tag q last bs ≡ Option-elim (behind_first (q ∷ []) bs) Math.none (λ rest. behind_tag 0 q rest)
unfolding behind_tag behind_first begins quote_after Option-elim
within q last [] h = refl
within q last (b ∷ bs) h =
    by_bool (nat_eq b q)
    (λ e. rw (h, e) (ap (λ (x : ℕ). behind_tag 0 x bs) (eqb-true b q e)))
    (λ e. rw (h, e) (within q b bs h))

-- a quote is no zero byte, which stands for none
quote-some : (b : ℕ) → quote b ≡ true → nat_eq b 0 ≡ false
unfolding quote any_of
quote-some zero h = cc
quote-some (suc b) h = eqb-suc-zero b

module _ (bs left behind : List ℕ) (last b : ℕ) (w : behind_tag 0 0 bs ≡ behind_tag 0 last left) (e : left ≡ b ∷ behind) where
  pub rest-ends : b ≡ 62 → Math.some (nat_eq last 47, behind) ≡ behind_tag 0 0 bs
  unfolding behind_tag
  rest-ends h = rw (w, e, h)

  pub rest-breaks : b ≡ 60 → Math.none ≡ behind_tag 0 0 bs
  unfolding behind_tag
  rest-breaks h = rw (w, e, h)

  module _ (x : b ≡ 62 → ⊥) (y : b ≡ 60 → ⊥) where
    pub goes-on : false ≡ quote b → behind_tag 0 0 bs ≡ behind_tag 0 b behind
    unfolding behind_tag quote_after
    goes-on h = rw (w, e, ne_eqb b 62 x, ne_eqb b 60 y, ← h)

    module _ (h : true ≡ quote b) where
      quoted : behind_tag 0 0 bs ≡ Option-elim (behind_first (b ∷ []) behind) Math.none (λ rest. behind_tag 0 b rest)
      unfolding behind_tag quote_after
      quoted = rw (w, e, ne_eqb b 62 x, ne_eqb b 60 y, ← h) (within b b behind (quote-some b (sym h)))

      pub goes-behind : (rest : List ℕ) → Math.some rest ≡ behind_first (b ∷ []) behind → behind_tag 0 0 bs ≡ behind_tag 0 b rest
      unfolding Option-elim
      goes-behind rest c = quoted ∙ rw (← c)

      pub quote-open : Math.none ≡ behind_first (b ∷ []) behind → Math.none ≡ behind_tag 0 0 bs
      unfolding Option-elim
      quote-open c = sym (quoted ∙ rw (← c))

pub rest-cut : (bs left : List ℕ) (last : ℕ) → behind_tag 0 0 bs ≡ behind_tag 0 last left → length left ≡ 0 → Math.none ≡ behind_tag 0 0 bs
unfolding behind_tag
rest-cut bs [] last w h = rw w
rest-cut bs (b ∷ left) last w h = absurd (omega arith)

-- ---- by a byte's place, the quote that is open, and the byte before: for who goes byte by byte, no function's proof cites these laws

-- the byte before a place; 0 at the first
abbrev pub before : List ℕ → ℕ → ℕ
before bs zero = 0
before bs (suc i) = get_or bs i 0

module _ (bs : List ℕ) (i : ℕ) (less : i < length bs) where
  -- outside quotes: the tag ends, or breaks off
  module _ (q : ℕ) (outside : q ≡ 0) where
    pub tag-ends : get_or bs i 0 ≡ 62 → (r : Bool) → r ≡ nat_eq (before bs i) 47
        → Math.some (r, take (length bs - (i + 1)) (drop (i + 1) bs)) ≡ behind_tag q (before bs i) (drop i bs)
    unfolding behind_tag
    tag-ends h r e = rw (one bs i less, outside, h, e, rest-of bs i less)

    pub tag-breaks : get_or bs i 0 ≡ 60 → Math.none ≡ behind_tag q (before bs i) (drop i bs)
    unfolding behind_tag
    tag-breaks h = rw (one bs i less, outside, h)

    pub goes-outside : (get_or bs i 0 ≡ 62 → ⊥) → (get_or bs i 0 ≡ 60 → ⊥)
        → behind_tag q (before bs i) (drop i bs) ≡ behind_tag (quote_after q (get_or bs i 0)) (before bs (i + 1)) (drop (i + 1) bs)
    unfolding behind_tag
    goes-outside x y = rw (one bs i less, add-one, outside, ne_eqb (get_or bs i 0) 62 x, ne_eqb (get_or bs i 0) 60 y)

  -- within them
  pub goes-within : (q : ℕ) → 0 < q
      → behind_tag q (before bs i) (drop i bs) ≡ behind_tag (quote_after q (get_or bs i 0)) (before bs (i + 1)) (drop (i + 1) bs)
  unfolding behind_tag
  goes-within q h = rw (one bs i less, add-one, ne_eqb q 0 (λ z. omega arith))

pub tag-cut : (bs : List ℕ) (i q last : ℕ) → length bs ≤ i → Math.none ≡ behind_tag q last (drop i bs)
unfolding behind_tag
tag-cut bs i q last h = rw (drop_of_length-le bs h)

-- whether `/` stands just before
pub slash-before : (bs : List ℕ) (i : ℕ) → 0 < i → nat_eq (get_or bs (i - 1) 0) 47 ≡ nat_eq (before bs i) 47
slash-before bs zero h = absurd (omega arith)
slash-before bs (suc i) h = let e : suc i - 1 ≡ i = omega arith in rw e

pub slash-none : (bs : List ℕ) (i : ℕ) → i ≤ 0 → ltb 0 i ≡ nat_eq (before bs i) 47
slash-none bs zero h = refl
slash-none bs (suc i) h = absurd (omega arith)
