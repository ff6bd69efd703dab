-- The fields of a text, and what they say.
use Rattle.std.specs.Prelude.{ℕ, ◌≤◌, ◌≡◌, List, length, take}
use Rattle.std.proofs.Common.{sym, arith, length-take-le}
use Rattle.text.specs.Text.{padded}
use Rattle.text.specs.declared.Text.TheInside.{Inside}

-- what the text says: its bytes up to its length
abbrev pub said : Inside → List ℕ
said t = take t.length t.bytes

-- the length is within the bytes, of which there are 192, and past it they are 0
pub record Clean (t : Inside) : Type 0 where
  pub within : t.length ≤ 192
  pub whole : length t.bytes ≡ 192
  pub rest : t.bytes ≡ padded (said t)

-- so what is said gives the fields back
abbrev pub fields_of : List ℕ → Inside
fields_of l = record { bytes = padded l; length = length l }

pub fields-back : (t : Inside) → Clean t → fields_of (said t) ≡ t
fields-back t h i =
    record { bytes = sym h.rest i; length = length-take-le t.length t.bytes (omega (arith, h.within, h.whole)) i }
