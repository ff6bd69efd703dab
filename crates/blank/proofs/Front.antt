-- A list whose first k elements are given anew: the target filled, the map cleared.
use mathlib.Core.Path.{◌≡◌, sym, ap, ◌∙◌}
use Prim.Native.Nat.{ℕ, ◌+◌, ◌*◌, ◌%◌, ◌≤◌, ◌<◌}
use native.Mathlib.Omega.{arith}
use mathlib.Core.List.{List, ◌++◌}
use borrow.Author.Rules.{rules}
use Rattle.std.proofs.lemmas.List.{places}
use Rattle.std.proofs.lemmas.Grind.{common_steps}
use mathlib.Core.Bool.{true, and-true}
use lib.Dec.{ltb}
use lib.ListN.{length, get_or, set, take, drop, replicate}
use lib.Seq.{ext_get_or}
use borrow.Author.Tests.{lt-ltb, le-ltb}
use Rattle.plane.specs.Paint.{paint, clear}
use Rattle.plane.proofs.Tests.{by-lt, ltb_next}
use Rattle.plane.proofs.SumLaws.{tab-ext, tab-getD, tab-set, length-tab, getD-tab}
use Rattle.blank.specs.Front.{front, Alike}

pub front-none : (f : ℕ → ℕ) (l : List ℕ) → front f 0 l ≡ l
unfolding front
front-none f l = tab-ext (length l) _ _ (λ i h. rw (le-ltb i 0 (omega arith))) ∙ sym (tab-getD l)

-- one element more
pub front-more : (f : ℕ → ℕ) (k : ℕ) (l : List ℕ) → k < length l → set (front f k l) k (f k) ≡ front f (k + 1) l
unfolding front
front-more f k l h = tab-set (length l) _ _ k (f k) h (rw (lt-ltb k (k + 1) (omega arith))) (λ i b n. rw (ltb_next i k n))

-- ---- the element at number i

pub front_length : (f : ℕ → ℕ) (k : ℕ) (l : List ℕ) → length (front f k l) ≡ length l
unfolding front
front_length f k l = length-tab (length l) _

pub front-in : (f : ℕ → ℕ) (k : ℕ) (l : List ℕ) (i : ℕ) → i < length l → i < k → get_or (front f k l) i 0 ≡ f i
unfolding front
front-in f k l i h b = getD-tab (length l) _ i h ∙ rw (lt-ltb i k b)

pub front-past : (f : ℕ → ℕ) (k : ℕ) (l : List ℕ) (i : ℕ) → i < length l → k ≤ i → get_or (front f k l) i 0 ≡ get_or l i 0
unfolding front
front-past f k l i h b = getD-tab (length l) _ i h ∙ rw (le-ltb i k b)

-- a list with these elements is the list filled
pub front-is : (f : ℕ → ℕ) (k : ℕ) (l r : List ℕ) → length r ≡ length l → ((i : ℕ) → i < length l → i < k → get_or r i 0 ≡ f i)
    → ((i : ℕ) → i < length l → k ≤ i → get_or r i 0 ≡ get_or l i 0)
    → r ≡ front f k l
front-is f k l r e g h =
    ext_get_or 0 r (front f k l) (e ∙ sym (front_length f k l))
    (λ i c. let b = rw e at c in by-lt i k (λ a. g i b a ∙ sym (front-in f k l i b a)) (λ a. h i b a ∙ sym (front-past f k l i b a)))

-- the first k elements put in from a list of k
pub front_put : (f : ℕ → ℕ) (k : ℕ) (l ys : List ℕ) → k ≤ length l → length ys ≡ k → ((i : ℕ) → i < k → get_or ys i 0 ≡ f i) → ys ++ drop k l ≡ front f k l
front_put f k l ys h e g =
    front-is f k l (ys ++ drop k l) (grind (arith, common_steps))
    (λ i b q. let z : get_or (ys ++ drop k l) i 0 ≡ get_or ys i 0 = search (rules, places) in z ∙ g i q)
    (λ i b q. search (rules, places))

pub front_filled : (v k : ℕ) (l ys : List ℕ) → k ≤ length l → ys ≡ replicate (length (take k l)) v → ys ++ drop k l ≡ front (λ i. v) k l
front_filled v k l ys h e =
    let n : length (take k l) ≡ k = search (rules, places) in
    front_put (λ i. v) k l ys h (rw e (search (rules, places))) (λ i q. rw e (search (rules, places)))

-- ---- the target and the map

-- n pixels of b bytes filled
pub front-fill : (n b : ℕ) (bg t : List ℕ) → front (λ k. get_or bg (k % b) 0) (n * b) t ≡ paint n b (λ p. true) (λ p j. get_or bg j 0) t
unfolding front paint
front-fill n b bg t = tab-ext (length t) _ _ (λ k h. rw (and-true (ltb k (n * b))))

-- the k bytes that hold n bits cleared
pub front-clear : (n k : ℕ) (m : List ℕ) → n ≤ 8 * k → 8 * k < n + 8 → front (λ i. 0) k m ≡ clear n m
unfolding front clear
front-clear n k m h h' =
    tab-ext (length m) _ _
    (λ i l. by-lt i k (λ a. rw (lt-ltb i k a, lt-ltb (8 * i) n (omega arith))) (λ a. rw (le-ltb i k a, le-ltb (8 * i) n (omega arith))))

pub clear_filled : (n k : ℕ) (m ys : List ℕ) → k ≤ length m → n ≤ 8 * k → 8 * k < n + 8 → ys ≡ replicate (length (take k m)) 0 → ys ++ drop k m ≡ clear n m
clear_filled n k m ys l h h' e = front_filled 0 k m ys l e ∙ front-clear n k m h h'

-- ---- elements that are all the first

pub alike-one : (l : List ℕ) → Alike l 1
alike-one l i h = ap (λ (k : ℕ). get_or l k 0) (omega arith)

-- one more
pub alike-more : (l : List ℕ) (k : ℕ) → Alike l k → get_or l k 0 ≡ get_or l 0 0 → Alike l (k + 1)
alike-more l k a e i h = by-lt i k (λ b. a i b) (λ b. ap (λ (j : ℕ). get_or l j 0) (omega arith) ∙ e)
