-- Classes of bytes.
use Rattle.std.specs.Prelude.{ℕ, Bool, not, eqb}

-- all but that byte
unfoldable pub other_than : ℕ → ℕ → Bool
other_than q b = not (eqb b q)
