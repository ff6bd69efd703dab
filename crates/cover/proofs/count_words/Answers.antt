-- `cover::count_words` meets its contract.
use mathlib.Core.Path.{◌≡◌, ap}
use mathlib.Core.List.{List}
use Prim.Native.Nat.{ℕ, ◌+◌, ◌*◌, ◌≤◌}
use lib.Count as Count
use native.Mathlib.Omega.{arith}
use borrow.Author.Rules.{rules}
use Rattle.format.specs.Bytes.{u64_at}
use Rattle.plane.specs.Paint.{ones}
use Rattle.plane.proofs.PaintLaws.{Bytes}
use Rattle.cover.proofs.Ones.{ones-bound, no_bits}
use Rattle.cover.proofs.Words.{next_word}
use Rattle.cover.proofs.count_words.Goals as goal

-- the sum with word k, which is at most the bits up to there
next : (m : List ℕ) (k : ℕ) {s w : ℕ} → s ≡ ones (64 * k) m → w ≡ u64_at m (8 * k) → Bytes m
    → (s + Count.ones w ≡ ones (64 * (k + 1)) m) × (ones (64 * (k + 1)) m ≤ 64 * (k + 1))
next m k e f h = (omega (arith, ap Count.ones f, next_word m h k), ones-bound _ m)

pub loop-k-init : goal.loop-k-init
loop-k-init c = no_bits _

pub overflow_add-sum : goal.overflow_add-sum
overflow_add-sum c = let s = next c.args.map.now c.loop-k.k c.loop-k.invariant c.u64_at.ensures (λ i. search rules) in omega arith

pub loop-k-preserved : goal.loop-k-preserved
loop-k-preserved c = (next c.args.map.now c.loop-k.k c.loop-k.invariant c.u64_at.ensures (λ i. search rules)).0
