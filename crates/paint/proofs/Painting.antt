-- A target painted and a map marked in two parts, before pixel j and from it on: it is as if done at once.
use mathlib.Core.Path.{◌≡◌, sym, ◌∙◌, subst}
use Prim.Native.Nat.{ℕ, ◌+◌, ◌*◌, ◌/◌, ◌%◌, ◌≤◌, ◌<◌}
use native.Mathlib.Nat.{div-add-mod', mod-lt}
use native.Mathlib.Omega.{arith}
use mathlib.Core.List.{List}
use mathlib.Core.Bool.{Bool, cond, ◌&&◌, ◌||◌}
use lib.Dec.{ltb, leb}
use lib.ListN.{length, get_or}
use lib.Seq.{ext_get_or}
use borrow.Author.Tests.{lt-ltb, le-ltb, le-leb, lt-leb}
use Rattle.plane.specs.Paint.{bit, mark, paint}
use Rattle.plane.proofs.PaintLaws.{Bytes, same_map, mark-bit, mark-bytes, mark-length, paint-length, paint-pixel}
pub use Rattle.copies.proofs.Copies.{by-range}

-- a list that at each of its pixels is as painted is the painted one
module _ {b : ℕ} (hb : 1 ≤ b) (n : ℕ) (on : ℕ → Bool) (px : ℕ → ℕ → ℕ) (t t' : List ℕ) where
  pub painted-as : length t' ≡ length t
      → ((p q : ℕ) → q < b → p * b + q < length t → get_or t' (p * b + q) 0 ≡ cond (ltb p n && on p) (px p q) (get_or t (p * b + q) 0))
      → t' ≡ paint n b on px t
  painted-as l e =
      ext_get_or 0 t' _ (l ∙ sym (paint-length n b on px t))
      (λ k h. subst (λ (z : ℕ). z < length t → get_or t' z 0 ≡ get_or (paint n b on px t) z 0) (div-add-mod' k b)
      (λ i. e (k / b) (k % b) (mod-lt k hb) i ∙ sym (paint-pixel n b on px t (k / b) (k % b) (mod-lt k hb) i)) (rw l at h))

module _ {j k : ℕ} (l : j ≤ k) (on on₂ : ℕ → Bool) where
  pub paint-then : {b : ℕ} → 1 ≤ b → (px px₂ : ℕ → ℕ → ℕ) (t : List ℕ) → ((p : ℕ) → j ≤ p → p < k → on₂ p ≡ on p)
      → ((p q : ℕ) → j ≤ p → p < k → q < b → px₂ p q ≡ px p q)
      → paint k b (λ p. leb j p && on₂ p) px₂ (paint j b on px t) ≡ paint k b on px t
  paint-then {b} hb px px₂ t e f =
      painted-as hb k on px t _ (paint-length k b _ px₂ _ ∙ paint-length j b on px t)
      (λ p q hq h. paint-pixel k b _ px₂ _ p q hq (rw (paint-length j b on px t) h)
      ∙ rw (paint-pixel j b on px t p q hq h) (merge p q hq (get_or t (p * b + q) 0)))
    where
      merge : (p q : ℕ) → q < b → (y : ℕ)
          → cond (ltb p k && (leb j p && on₂ p)) (px₂ p q) (cond (ltb p j && on p) (px p q) y) ≡ cond (ltb p k && on p) (px p q) y
      merge p q hq y =
          by-range j k p (λ h. rw (lt-leb j p h, lt-ltb p j h, lt-ltb p k (omega arith)))
          (λ h i. rw (le-leb j p h, le-ltb p j h, lt-ltb p k i, e p h i, f p q h i hq))
          (λ h. rw (le-ltb p k h, le-ltb p j (omega arith)))

  pub mark-then : (m : List ℕ) → Bytes m → ((p : ℕ) → j ≤ p → p < k → (on₂ p || bit m p) ≡ (on p || bit m p))
      → mark k (λ p. leb j p && on₂ p) (mark j on m) ≡ mark k on m
  mark-then m hm e =
      same_map _ _ (simp mark-length) (mark-bytes k _ _ (mark-bytes j on m hm)) (mark-bytes k on m hm)
      (λ p h. let i : p < 8 * length m = simp mark-length at h in
      mark-bit k _ _ p (simp mark-length i) ∙ rw (mark-bit j on m p i, mark-bit k on m p i) (both p))
    where
      both : (p : ℕ) → ((ltb p k && (leb j p && on₂ p)) || ((ltb p j && on p) || bit m p)) ≡ ((ltb p k && on p) || bit m p)
      both p =
          by-range j k p (λ h. rw (lt-leb j p h, lt-ltb p j h, lt-ltb p k (omega arith)))
          (λ h i. rw (le-leb j p h, le-ltb p j h, lt-ltb p k i) (e p h i))
          (λ h. rw (le-ltb p k h, le-ltb p j (omega arith)))
