-- How large a segment is: AllocatedSize is the smallest multiple of 32 that holds the content. Assumes nothing.
use Prim.Native.Nat.{ℕ, ◌+◌, ◌*◌, ◌/◌, ◌%◌, ◌≤◌, ◌<◌}
use mathlib.Core.Path.{◌≡◌, refl}
use native.Mathlib.Omega.{arith}
use Rattle.pack.specs.Pack.{allocated, segment_size}
use Rattle.pack.specs.Claims.{Smallest}

pub allocated-is : (n : ℕ) → allocated n ≡ (n + 31) / 32 * 32
unfolding allocated
allocated-is n = refl

pub size_is : (n : ℕ) → segment_size n ≡ 32 + allocated n
unfolding segment_size
size_is n = refl

-- ---- AllocatedSize

pub allocated-holds : (n : ℕ) → n ≤ allocated n
allocated-holds n = omega (arith, allocated-is n)

pub allocated-near : (n : ℕ) → allocated n < n + 32
allocated-near n = omega (arith, allocated-is n)

pub allocated-whole : (n : ℕ) → allocated n % 32 ≡ 0
allocated-whole n = omega (arith, allocated-is n)

pub allocated-least : (n a : ℕ) → n ≤ a → a % 32 ≡ 0 → allocated n ≤ a
allocated-least n a h e = omega (arith, allocated-is n)

pub allocated-rises : (m n : ℕ) → m ≤ n → allocated m ≤ allocated n
allocated-rises m n h = omega (arith, allocated-is m, allocated-is n)

pub smallest : Smallest
smallest n = (allocated-holds n, allocated-whole n, allocated-least n)

-- ---- the segment, with its header of 32 bytes

pub size-header : (n : ℕ) → 32 ≤ segment_size n
size-header n = omega (arith, size_is n)

pub size_holds : (n : ℕ) → 32 + n ≤ segment_size n
size_holds n = omega (arith, size_is n, allocated-holds n)

pub size-whole : (n : ℕ) → segment_size n % 32 ≡ 0
size-whole n = omega (arith, size_is n, allocated-whole n)
