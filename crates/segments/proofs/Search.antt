-- The index of a position in a list, and what a search in a rising one finds. Assumes nothing.
use Prim.Native.Nat.{ℕ, zero, suc, ◌+◌, ◌-◌, ◌/◌, ◌≤◌, ◌<◌, suc-le-suc, zero-le}
use mathlib.Core.Path.{◌≡◌, refl, sym, ◌∙◌}
use mathlib.Core.Logic.{◌⊎◌, inl, inr, ⊎_elim}
use mathlib.Core.List.{List}
use mathlib.Core.Bool.{Bool, true, false, true≢false}
use native.Mathlib.Omega.{arith}
use native.Mathlib.Nat.{eq-or-lt_of_le}
use lib.ListN.{length, get_or, take}
use lib.Seq.{get_or-take, length-take-le}
use lib.Dec.{eqb}
use borrow.Author.Tests.{eq-eqb, ne_eqb, eqb-true}
use Rattle.format.specs.Segments.{member}
use Rattle.format.proofs.Below.{any-intro, any_found, least-found, least-none, least-is}
use Rattle.format.proofs.Members.{member-at, member-among}
use Rattle.format.proofs.SegmentLaws.{Rising}
use Rattle.segments.specs.Walk.{index_in}

le-or-lt : (a b : ℕ) → (a ≤ b) ⊎ (b < a)
le-or-lt zero b = inl zero-le
le-or-lt (suc a) zero = inr (suc-le-suc zero-le)
le-or-lt (suc a) (suc b) = ⊎_elim (λ p. inl (suc-le-suc p)) (λ q. inr (suc-le-suc q)) (le-or-lt a b)

-- ---- the index of a position in a list

module _ (l : List ℕ) (q : ℕ) where
  -- it is that of no element before m, and of the one at m
  index_at : (m : ℕ) → m < length l → ((i : ℕ) → i < m → get_or l i 0 ≡ q → ⊥) → get_or l m 0 ≡ q → index_in q l ≡ m
  unfolding index_in
  index_at m h n e = least-found (length l) m _ h (any-intro m _ (λ i k. ne_eqb (get_or l i 0) q (n i k))) (eq-eqb (get_or l m 0) q e)

  index-none : ((i : ℕ) → i < length l → get_or l i 0 ≡ q → ⊥) → index_in q l ≡ length l
  unfolding index_in
  index-none n = least-none (length l) _ (any-intro (length l) _ (λ i k. ne_eqb (get_or l i 0) q (n i k)))

  -- a member stands at its index; another index than the length is that of a member
  pub record Indexed : Type 0 where
    pub below : index_in q l < length l
    pub stands : get_or l (index_in q l) 0 ≡ q

  pub index-member : member q l ≡ true → Indexed
  unfolding index_in
  index-member e =
      let a = member-among q l e in
      let f = least-is (length l) (λ k. eqb (get_or l k 0) q) (any_found (length l) a.0 _ a.1 (eq-eqb _ q a.2)) in
      record { below = f.below; stands = eqb-true _ q f.holds }

  pub member-index : (index_in q l ≡ length l → ⊥) → member q l ≡ true
  member-index h = go (member q l) refl
    where
      go : (b : Bool) → member q l ≡ b → member q l ≡ true
      go true e = e
      go false e = absurd (h (index-none (λ i k f. true≢false (sym (member-at l q i k f) ∙ e))))

-- ---- the search by halving in a list that rises

module _ (l : List ℕ) (q : ℕ) (r : Rising l) where
  -- an element that is q is the only one
  pub index-found : (i : ℕ) → (i < length l) × (get_or l i 0 ≡ q) → index_in q l ≡ i
  index-found i f = index_at l q i f.0 (λ j h e. omega (arith, r j i h f.0)) f.1

  -- q stands between what is less and what is more
  pub member-missed : (i : ℕ)
      → (i ≤ length l) × ((k : ℕ) → k < i → get_or l k 0 < q) × ((k : ℕ) → i ≤ k → k < length l → q < get_or l k 0) → member q l ≡ false
  member-missed i f = go (member q l) refl
    where
      go : (b : Bool) → member q l ≡ b → member q l ≡ false
      go true e =
          let m = index-member l q e in
          ⊎_elim (λ (u : i ≤ index_in q l). absurd (omega (arith, f.2 (index_in q l) u m.below, m.stands)))
          (λ (u : index_in q l < i). absurd (omega (arith, f.1 (index_in q l) u, m.stands)))
          (le-or-lt i (index_in q l))
      go false e = e

  -- what the library's search asks of the list
  pub not-falling : (i j : ℕ) → i ≤ j → j < length l → get_or l i 0 ≤ get_or l j 0
  not-falling i j h k = ⊎_elim (λ (e : i ≡ j). rw e (omega arith)) (λ (u : i < j). omega (arith, r i j u k)) (eq-or-lt_of_le h)
