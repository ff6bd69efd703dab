-- `fields::u64_at` meets its contract.
use Prim.Native.Nat.{ℕ, ◌+◌}
use mathlib.Core.Path.{◌≡◌, ap}
use mathlib.Core.List.{List}
use native.Mathlib.Omega.{arith}
use lib.ListN.{get_or}
use Rattle.format.specs.Bytes.{u32_at, u64_at}
use Rattle.fields.proofs.u64_at.Goals as goal

-- byte k of the higher word
higher : (bs : List ℕ) (p k i : ℕ) → p + 4 + k ≡ p + i → get_or bs (p + 4 + k) 0 ≡ get_or bs (p + i) 0
higher bs p k i e = ap (λ j. get_or bs j 0) e

pub returns : goal.returns
unfolding u64_at u32_at
returns c =
    let h = higher c.args.s.now c.args.p in
    omega (arith, c.from_le_bytes.ensures, h 1 5 (omega arith), h 2 6 (omega arith), h 3 7 (omega arith))
