-- `cover::count_ones` meets its contract.
use mathlib.Core.Path.{◌≡◌, refl, ap, ◌∙◌}
use mathlib.Core.List.{List}
use Prim.Native.Nat.{ℕ, ◌+◌, ◌*◌, ◌-◌, ◌/◌, ◌%◌, ◌^◌, ◌≤◌}
use lib.Count as Count
use lib.ListN.{get_or}
use native.Mathlib.Omega.{arith}
use borrow.Author.Rules.{rules}
use Rattle.plane.specs.Paint.{ones}
use Rattle.plane.proofs.PaintLaws.{Bytes}
use Rattle.cover.proofs.Ones.{next-byte, last-ones, ones-bound}
use Rattle.cover.proofs.count_ones.Goals as goal

-- the sum with byte k, which is at most the bits up to there
next : (m : List ℕ) (k : ℕ) {s : ℕ} → s ≡ ones (8 * k) m → Bytes m
    → (s + Count.ones (get_or m k 0) ≡ ones (8 * (k + 1)) m) × (ones (8 * (k + 1)) m ≤ 8 * (k + 1))
next m k e h = (omega (arith, next-byte m h k (8 * (k + 1)) refl), ones-bound _ m)

-- the sum with the high bits of the last byte, which is at most all the bits
last : (m : List ℕ) (n k : ℕ) {s : ℕ} → k ≡ n / 8 → s ≡ ones (8 * k) m → Bytes m
    → (s + Count.ones (get_or m (n / 8) 0 / 2 ^ (8 - n % 8)) ≡ ones n m) × (ones n m ≤ n)
last m n k f e h = (omega (arith, last-ones m h n, ap (λ (z : ℕ). ones (8 * z) m) f), ones-bound n m)

pub loop-k-init : goal.loop-k-init
loop-k-init c = c.count_words-sum.ensures ∙ ap (λ (n : ℕ). ones n c.args.map.now) (omega arith)

pub loop-k-preserved : goal.loop-k-preserved
loop-k-preserved c = (next c.args.map.now c.loop-k.k c.loop-k.invariant (λ i. search rules)).0

pub overflow_add-sum : goal.overflow_add-sum
overflow_add-sum c = let s = next c.args.map.now c.loop-k.k c.loop-k.invariant (λ i. search rules) in omega arith

pub overflow_add-sum-then-rest-gt0 : goal.overflow_add-sum-then-rest-gt0
overflow_add-sum-then-rest-gt0 c = let s = last c.args.map.now c.args.n _ (omega arith) c.loop-k.invariant (λ i. search rules) in omega arith

pub returns-then-rest-gt0 : goal.returns-then-rest-gt0
returns-then-rest-gt0 c = (last c.args.map.now c.args.n _ (omega arith) c.loop-k.invariant (λ i. search rules)).0
