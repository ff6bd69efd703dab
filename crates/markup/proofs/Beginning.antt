-- What begins with a string, and what stands behind the first of one.
use Rattle.std.proofs.Common.{◌≡◌, refl, sym, ap, ◌∙◌, ℕ, ◌+◌, ◌-◌, ◌<◌, ◌≤◌, Bool, true, false, List, [], ◌∷◌, length, take, drop, get_or, arith, add-one, nat_eq, drop-cons, length-drop, ◌&&◌, ltb}
use Rattle.std.specs.Cmp.Lexicographic.{pointwise}
use Rattle.std.proofs.Math.Option as Math
use Rattle.std.proofs.Math.ListN.{drop_of_length-le}
use lib.Seq.{take_all, drop-drop}
use Rattle.markup.proofs.Comparing.{begins-short}
use Rattle.format.specs.Markup.{begins, behind_first}
use Rattle.format.proofs.Below.{by_bool}
use borrow.Author.Tests.{eqb-true, eqb-false, eq-eqb, ne_eqb, ltb-true, ltb-false}

-- by `strip_prefix`
pub begins-strip : (m bs : List ℕ) → pointwise nat_eq (take (length m) bs) m ≡ begins m bs
unfolding begins
begins-strip [] bs = refl
begins-strip (x ∷ m) [] = refl
begins-strip (x ∷ m) (b ∷ bs) = ap (λ (t : Bool). nat_eq b x && t) (begins-strip m bs)

-- by `starts_with`
either : (x b : ℕ) → nat_eq x b ≡ nat_eq b x
either x b =
    by_bool (nat_eq x b) (λ e. e ∙ sym (eq-eqb b x (sym (eqb-true x b e)))) (λ e. e ∙ sym (ne_eqb b x (λ h. eqb-false x b e (sym h))))

pub begins-start : (m bs : List ℕ) → pointwise nat_eq m (take (length m) bs) ≡ begins m bs
unfolding begins
begins-start [] bs = refl
begins-start (x ∷ m) [] = refl
begins-start (x ∷ m) (b ∷ bs) = rw (either x b) (ap (λ (t : Bool). nat_eq b x && t) (begins-start m bs))

pub part-rest : (bs : List ℕ) (at : ℕ) → take (length bs - at) (drop at bs) ≡ drop at bs
part-rest bs at = take_all (length bs - at) (drop at bs) (omega (arith, length-drop at bs))

-- at a place: it stands there, or the search goes on one place later
module _ (m bs : List ℕ) (at : ℕ) (less : at < length bs) where
  split : drop at bs ≡ get_or bs at 0 ∷ drop (at + 1) bs
  split = rw (add-one, drop-cons bs at 0 less)

  -- by the slice as long as m
  begun : (t : Bool) → t ≡ pointwise nat_eq (take (at + length m - at) (drop at bs)) m → begins m (drop at bs) ≡ t
  begun t e = let n : at + length m - at ≡ length m = omega arith in sym (begins-strip m (drop at bs)) ∙ sym (rw n at e)

  pub slice-first : true ≡ pointwise nat_eq (take (at + length m - at) (drop at bs)) m
      → Math.some (take (length bs - (at + length m)) (drop (at + length m) bs)) ≡ behind_first m (drop at bs)
  unfolding behind_first
  slice-first h =
      rw (part-rest bs (at + length m), ← drop-drop (length m) at bs, split) (rw (rw split at (begun true h)))

  pub slice-other : false ≡ pointwise nat_eq (take (at + length m - at) (drop at bs)) m → behind_first m (drop at bs) ≡ behind_first m (drop (at + 1) bs)
  unfolding behind_first
  slice-other h = rw split (rw (rw split at (begun false h)))

  -- by `strip_prefix`: for who strips prefixes, no function's proof cites these
  stripped : (t : Bool) → pointwise nat_eq (take (length m) (take (length bs - at) (drop at bs))) m ≡ t → begins m (drop at bs) ≡ t
  stripped t e = sym (begins-strip m (drop at bs)) ∙ rw (← part-rest bs at) e

  pub first_here : pointwise nat_eq (take (length m) (take (length bs - at) (drop at bs))) m ≡ true
      → (rest : List ℕ) → rest ≡ drop (length m) (take (length bs - at) (drop at bs)) → Math.some rest ≡ behind_first m (drop at bs)
  unfolding behind_first
  first_here h rest r =
      rw (r, part-rest bs at, split) (rw (rw split at (stripped true h)))

  pub first_later : pointwise nat_eq (take (length m) (take (length bs - at) (drop at bs))) m ≡ false
      → behind_first m (drop at bs) ≡ behind_first m (drop (at + 1) bs)
  unfolding behind_first
  first_later h = rw split (rw (rw split at (stripped false h)))

pub first-none : (m bs : List ℕ) (at : ℕ) → length bs ≤ at → behind_first m (drop at bs) ≡ Math.none
unfolding behind_first
first-none m bs at h = rw (drop_of_length-le bs h)

-- in bytes that are shorter it stands nowhere
first_short : (m bs : List ℕ) → length bs < length m → behind_first m bs ≡ Math.none
unfolding behind_first
first_short m [] h = refl
first_short m (b ∷ bs) h = rw (begins-short m (b ∷ bs) h) (first_short m bs (omega arith))

pub first-cut : (m bs : List ℕ) (at : ℕ) → length bs < at + length m → behind_first m (drop at bs) ≡ Math.none
first-cut m bs at h = by_bool (ltb at (length bs))
    (λ l. first_short m (drop at bs) (omega (arith, length-drop at bs, ltb-true at (length bs) l)))
    (λ l. first-none m bs at (ltb-false at (length bs) l))
