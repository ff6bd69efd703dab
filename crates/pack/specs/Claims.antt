-- What is claimed of a segment's size; `proofs/Sizes` proves it.
use Rattle.std.specs.Prelude.{ℕ, ◌%◌, ◌≤◌, ◌≡◌}
use Rattle.pack.specs.Pack.{allocated}

-- AllocatedSize is the smallest multiple of 32 that holds the content
abbrev pub Smallest : Type 0
Smallest = (n : ℕ) → (n ≤ allocated n) × (allocated n % 32 ≡ 0) × ((a : ℕ) → n ≤ a → a % 32 ≡ 0 → allocated n ≤ a)
