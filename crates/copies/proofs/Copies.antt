-- Bytes copied from one number up to another.
use mathlib.Core.Path.{◌≡◌, sym, ◌∙◌}
use Prim.Native.Nat.{ℕ, ◌+◌, ◌≤◌, ◌<◌}
use native.Mathlib.Omega.{arith}
use mathlib.Core.List.{List}
use mathlib.Core.Bool.{true, false, cond, ◌&&◌, and-false}
use lib.Dec.{ltb, leb}
use lib.ListN.{length, get_or, set}
use lib.Seq.{ext_get_or}
use borrow.Author.Tests.{lt-ltb, le-ltb, le-leb, lt-leb}
use Rattle.plane.proofs.Tests.{by-lt, ltb_next}
use Rattle.plane.proofs.SumLaws.{tab-ext, tab-getD, tab-set, length-tab, getD-tab}
use Rattle.copies.specs.Copied.{copied}

-- ---- the numbers from a up to e

-- a number is below a, from a up to e, or past
pub by-range : {P : Type 0} (a e k : ℕ) → (k < a → P) → (a ≤ k → k < e → P) → (e ≤ k → P) → P
by-range a e k f g h = by-lt k a f (λ l. by-lt k e (g l) h)

pub range-in : (a e k : ℕ) → a ≤ k → k < e → (leb a k && ltb k e) ≡ true
range-in a e k h l = rw (le-leb a k h, lt-ltb k e l)

pub range-below : (a e k : ℕ) → k < a → (leb a k && ltb k e) ≡ false
range-below a e k h = rw (lt-leb a k h)

pub range-past : (a e k : ℕ) → e ≤ k → (leb a k && ltb k e) ≡ false
range-past a e k h = rw (le-ltb k e h) (and-false (leb a k))

-- no number lies from a up to a
pub range_none : (a k : ℕ) → (leb a k && ltb k a) ≡ false
range_none a k = by-range a a k (range-below a a k) (λ h l. absurd (omega arith)) (range-past a a k)

-- ---- a copy

pub copied-length : (d s : List ℕ) (a e : ℕ) → length (copied d s a e) ≡ length d
unfolding copied
copied-length d s a e = length-tab (length d) _

pub copied_at : (d s : List ℕ) (a e k : ℕ) → k < length d → get_or (copied d s a e) k 0 ≡ cond (leb a k && ltb k e) (get_or s k 0) (get_or d k 0)
unfolding copied
copied_at d s a e k h = getD-tab (length d) _ k h

pub copied_none : (d s : List ℕ) (a : ℕ) → copied d s a a ≡ d
unfolding copied
copied_none d s a = tab-ext (length d) _ (λ k. get_or d k 0) (λ k l. rw (range_none a k)) ∙ sym (tab-getD d)

-- ---- the byte at number k after a copy

pub copied-in : (d s : List ℕ) (a e k : ℕ) → k < length d → a ≤ k → k < e → get_or (copied d s a e) k 0 ≡ get_or s k 0
copied-in d s a e k l h h' = copied_at d s a e k l ∙ rw (range-in a e k h h')

pub copied-below : (d s : List ℕ) (a e k : ℕ) → k < length d → k < a → get_or (copied d s a e) k 0 ≡ get_or d k 0
copied-below d s a e k l h = copied_at d s a e k l ∙ rw (range-below a e k h)

pub copied-past : (d s : List ℕ) (a e k : ℕ) → k < length d → e ≤ k → get_or (copied d s a e) k 0 ≡ get_or d k 0
copied-past d s a e k l h = copied_at d s a e k l ∙ rw (range-past a e k h)

-- one byte more
pub copied_more : (d s : List ℕ) (a k : ℕ) → a ≤ k → k < length d → set (copied d s a k) k (get_or s k 0) ≡ copied d s a (k + 1)
unfolding copied
copied_more d s a k h l =
    tab-set (length d) _ _ k (get_or s k 0) l (rw (range-in a (k + 1) k h (omega arith))) (λ i b n. rw (ltb_next i k n))

-- a copy that goes on where another ended
pub copied_on : (d s : List ℕ) (a j e : ℕ) → a ≤ j → j ≤ e → copied (copied d s a j) s j e ≡ copied d s a e
copied_on d s a j e h h' =
    ext_get_or 0 _ _ (copied-length _ s j e ∙ copied-length d s a j ∙ sym (copied-length d s a e))
    (λ k c.
    let l' : k < length (copied d s a j) = rw (copied-length (copied d s a j) s j e) at c in
    let l : k < length d = rw (copied-length d s a j) at l' in
    by-range j e k
    (λ x. copied-below _ s j e k l' x
    ∙ by-range a j k (λ y. copied-below d s a j k l y ∙ sym (copied-below d s a e k l y))
    (λ y z. copied-in d s a j k l y z ∙ sym (copied-in d s a e k l y (omega arith)))
    (λ y. absurd (omega arith)))
    (λ x y. copied-in _ s j e k l' x y ∙ sym (copied-in d s a e k l (omega arith) y))
    (λ x. copied-past _ s j e k l' x ∙ copied-past d s a j k l (omega arith) ∙ sym (copied-past d s a e k l x)))

-- a copy of all bytes is the source
pub copied-whole : (d s : List ℕ) (n : ℕ) → length d ≡ n → length s ≡ n → copied d s 0 n ≡ s
copied-whole d s n e f =
    ext_get_or 0 _ _ (copied-length d s 0 n ∙ e ∙ sym f)
    (λ k b.
    let l : k < length d = rw (copied-length d s 0 n) at b in
    copied-in d s 0 n k l (omega arith) (omega arith))
