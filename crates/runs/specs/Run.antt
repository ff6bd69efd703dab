-- A run of equal values of a test over the numbers: from one to the first that differs, or to the end.
use Rattle.std.specs.Prelude.{◌≡◌, ℕ, ◌-◌, ◌≤◌, ◌<◌, Bool, not, cond}

-- from number a on f is v up to r, and there f is not v, unless r is the end e
pub record Run (f : ℕ → Bool) (a e : ℕ) (v : Bool) (r : ℕ) : Type 0 where
  pub start : a ≤ r
  pub end : r ≤ e
  pub same : (i : ℕ) → a ≤ i → i < r → f i ≡ v
  pub stops : r < e → f r ≡ not v

-- the byte, and the word of eight, whose bits are all v
abbrev pub full : Bool → ℕ
full v = cond v 255 0

abbrev pub full_word : Bool → ℕ
full_word v = cond v 18446744073709551615 0

-- the byte whose ones are the bits of the byte x that are not v
abbrev pub differing : ℕ → Bool → ℕ
differing x v = cond v (255 - x) x
