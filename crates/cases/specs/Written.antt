-- Bytes that are written as text.
use Prim.Native.Char.{code}
use Rattle.std.specs.Prelude.{ℕ, List, [] as none, ◌∷◌ as ◌before◌}
use Prim.Native.String.{String, [], ◌∷◌}

abbrev pub bytes : String → List ℕ
bytes [] = none
bytes (c ∷ s) = code c before bytes s
