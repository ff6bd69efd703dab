-- Bytes moved from one number on to another, and through a block.
use mathlib.Core.Path.{◌≡◌, refl, sym, ap, ◌∙◌}
use Prim.Native.Nat.{ℕ, ◌+◌, ◌-◌, ◌≤◌, ◌<◌}
use native.Mathlib.Nat.{add-zero}
use native.Mathlib.Omega.{arith}
use mathlib.Core.List.{List, ◌++◌}
use mathlib.Core.Bool.{cond, ◌&&◌}
use borrow.Author.Rules.{rules}
use borrow.Rule.Slice.PartMut.{put_mid}
use lib.Dec.{ltb, leb}
use lib.ListN.{length, get_or, set, take, drop}
use Rattle.std.proofs.lemmas.List.{places, take-take}
use Rattle.std.proofs.lemmas.Slice.{put_mid-paste}
use Rattle.std.proofs.lemmas.Grind.{common_steps}
use lib.Seq.{ext_get_or, paste}
use Rattle.plane.proofs.Tests.{ltb_next}
use Rattle.plane.proofs.SumLaws.{tab-ext, tab-getD, tab-set, length-tab, getD-tab}
use Rattle.copies.specs.Copied.{copied, moved}
use Rattle.copies.proofs.Copies.{by-range, range-in, range-below, range-past, range_none, copied-length, copied-in, copied-below, copied-past}

pub moved_length : (d s : List ℕ) (p q n : ℕ) → length (moved d s p q n) ≡ length d
unfolding moved
moved_length d s p q n = length-tab (length d) _

-- ---- the byte at number k after a move

moved_at : (d s : List ℕ) (p q n k : ℕ) → k < length d → get_or (moved d s p q n) k 0 ≡ cond (leb p k && ltb k (p + n)) (get_or s (q + (k - p)) 0) (get_or d k 0)
unfolding moved
moved_at d s p q n k l = getD-tab (length d) _ k l

pub moved_in : (d s : List ℕ) (p q n k : ℕ) → k < length d → p ≤ k → k < p + n → get_or (moved d s p q n) k 0 ≡ get_or s (q + (k - p)) 0
moved_in d s p q n k l h h' = moved_at d s p q n k l ∙ rw (range-in p (p + n) k h h')

pub moved-below : (d s : List ℕ) (p q n k : ℕ) → k < length d → k < p → get_or (moved d s p q n) k 0 ≡ get_or d k 0
moved-below d s p q n k l h = moved_at d s p q n k l ∙ rw (range-below p (p + n) k h)

pub moved-past : (d s : List ℕ) (p q n k : ℕ) → k < length d → p + n ≤ k → get_or (moved d s p q n) k 0 ≡ get_or d k 0
moved-past d s p q n k l h = moved_at d s p q n k l ∙ rw (range-past p (p + n) k h)

-- ---- one byte after another

pub moved_none : (d s : List ℕ) (p q : ℕ) → moved d s p q 0 ≡ d
unfolding moved
moved_none d s p q = tab-ext (length d) _ (λ k. get_or d k 0) (λ k l. rw (add-zero, range_none p k)) ∙ sym (tab-getD d)

-- one byte more
pub moved_more : (d s : List ℕ) (p q i : ℕ) → p + i < length d → set (moved d s p q i) (p + i) (get_or s (q + i) 0) ≡ moved d s p q (i + 1)
unfolding moved
moved_more d s p q i l =
    let e : p + (i + 1) ≡ p + i + 1 = omega arith in
    let f : p + i - p ≡ i = omega arith in
    tab-set (length d) _ _ (p + i) (get_or s (q + i) 0) l (rw (f, range-in p (p + (i + 1)) (p + i) (omega arith) (omega arith)))
    (λ k b n. rw (e, ltb_next k (p + i) n))

-- ---- whole moves

-- a move to the same numbers is a copy
pub moved_same : (d s : List ℕ) (a e : ℕ) → a ≤ e → moved d s a a (e - a) ≡ copied d s a e
moved_same d s a e h =
    ext_get_or 0 _ _ (moved_length d s a a (e - a) ∙ sym (copied-length d s a e))
    (λ k b.
    let l = rw (moved_length d s a a (e - a)) at b in
    by-range a e k (λ x. moved-below d s a a (e - a) k l x ∙ sym (copied-below d s a e k l x))
    (λ x y. moved_in d s a a (e - a) k l x (omega arith) ∙ ap (λ (z : ℕ). get_or s z 0) (omega arith) ∙ sym (copied-in d s a e k l x y))
    (λ x. moved-past d s a a (e - a) k l (omega arith) ∙ sym (copied-past d s a e k l x)))

-- the source's n bytes from number q on in the place of those from number p on
pub moved_put : (d s ys : List ℕ) (p q n : ℕ) → p + n ≤ length d → q + n ≤ length s → ys ≡ take n (drop q s) → put_mid p n d ys ≡ moved d s p q n
moved_put d s ys p q n h h' e =
    let y : length ys ≡ n = rw e (search (rules, places)) in
    let r : List ℕ = put_mid p n d ys in
    let z : length r ≡ length d = grind (arith, common_steps) in
    ext_get_or 0 _ _ (z ∙ sym (moved_length d s p q n))
    (λ k (c : k < length r).
    let l : k < length d = omega arith in
    by-range p (p + n) k
    (λ x. let g : get_or r k 0 ≡ get_or d k 0 = search (rules, places) in g ∙ sym (moved-below d s p q n k l x))
    (λ x x'. let g : get_or r k 0 ≡ get_or s (q + (k - p)) 0 = rw e (search (rules, places)) in g ∙ sym (moved_in d s p q n k l x x'))
    (λ x. let g : get_or r k 0 ≡ get_or d k 0 = search (rules, places) in g ∙ sym (moved-past d s p q n k l x)))

-- the same through std's word for it
pub moved_paste : (d s : List ℕ) (p q n : ℕ) → p + n ≤ length d → q + n ≤ length s → paste d p (drop q s) n ≡ moved d s p q n
moved_paste d s p q n h h' =
    let x : List ℕ = take n (drop q s) in
    let y : length x ≡ n = search (rules, places) in
    let z : take n x ≡ take n (drop q s) = take-take n n (drop q s) (omega arith) in
    let w : paste d p x n ≡ paste d p (drop q s) n = ap (λ (u : List ℕ). take p d ++ u ++ drop (p + n) d) z in
    sym w ∙ sym (put_mid-paste p n d x x n refl refl (sym y)) ∙ moved_put d s x p q n h h' refl

pub copied_put : (d s ys : List ℕ) (a e : ℕ) → a ≤ e → e ≤ length d → e ≤ length s → ys ≡ take (e - a) (drop a s) → put_mid a (e - a) d ys ≡ copied d s a e
copied_put d s ys a e h l l' f = moved_put d s ys a a (e - a) (omega arith) (omega arith) f ∙ moved_same d s a e h

-- ---- by way of a block b, from its byte 0 on

moved-through : (d s b : List ℕ) (p q n : ℕ) → n ≤ length b → moved d (moved b s 0 q n) p 0 n ≡ moved d s p q n
moved-through d s b p q n h =
    ext_get_or 0 _ _ (moved_length d _ p 0 n ∙ sym (moved_length d s p q n))
    (λ k c.
    let l = rw (moved_length d (moved b s 0 q n) p 0 n) at c in
    by-range p (p + n) k (λ x. moved-below d _ p 0 n k l x ∙ sym (moved-below d s p q n k l x))
    (λ x y. moved_in d _ p 0 n k l x y ∙ moved_in b s 0 q n (0 + (k - p)) (omega arith) (omega arith) (omega arith)
    ∙ ap (λ (z : ℕ). get_or s z 0) (omega arith) ∙ sym (moved_in d s p q n k l x y))
    (λ x. moved-past d _ p 0 n k l x ∙ sym (moved-past d s p q n k l x)))

pub through : (d s b b' d' : List ℕ) (p q n : ℕ) → n ≤ length b → b' ≡ moved b s 0 q n → d' ≡ moved d b' p 0 n → d' ≡ moved d s p q n
through d s b b' d' p q n l f g = g ∙ ap (λ (x : List ℕ). moved d x p 0 n) f ∙ moved-through d s b p q n l

pub copied-through : (d s b b' d' : List ℕ) (a e : ℕ) → a ≤ e → e - a ≤ length b → b' ≡ moved b s 0 a (e - a) → d' ≡ moved d b' a 0 (e - a)
    → d' ≡ copied d s a e
copied-through d s b b' d' a e h l f g = through d s b b' d' a a (e - a) l f g ∙ moved_same d s a e h
