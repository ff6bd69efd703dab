-- The start of a composition over lent bytes: the background pixel everywhere, and a zero map.
use Rattle.std.specs.Prelude.{◌≡◌, ℕ, ◌*◌, ◌≤◌, List, true, length, get_or}
use Rattle.plane.specs.Paint.{paint, clear}
use Rattle.copies.specs.Copied.{block_size}

-- the target t has room for n pixels of b bytes, and the background is one pixel, of at most a block of bytes
pub record FillRoom (t : List ℕ) (n b : ℕ) (bg : List ℕ) : Type 0 where
  pub bytes : 1 ≤ b
  pub small : b ≤ block_size
  pub target : n * b ≤ length t
  pub pixel : length bg ≡ b

-- each of the n pixels is the background, and the bytes past them are as they were
abbrev pub BackgroundFilled : List ℕ → ℕ → ℕ → List ℕ → List ℕ → Type 0
BackgroundFilled t n b bg t' = t' ≡ paint n b (λ p. true) (λ p j. get_or bg j 0) t

-- the bytes that hold the first n bits are zero, and those past them are as they were
abbrev pub Cleared : List ℕ → ℕ → List ℕ → Type 0
Cleared m n m' = m' ≡ clear n m
