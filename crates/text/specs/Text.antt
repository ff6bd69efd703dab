-- Lines of plain ASCII text: a number in decimal, and what a text of at most 192 bytes holds. A text's bytes are a list of numbers.
use Rattle.std.specs.Prelude.{ℕ, zero, suc, ◌+◌, ◌-◌, ◌/◌, ◌%◌, ◌^◌, cond, List, [], ◌∷◌, ◌++◌, length, replicate, ltb, ℤ, pos, negsuc}

-- ---- numbers

-- the decimal digits of x, of which there are at most n: the last n where x has more
unfoldable pub digits : ℕ → ℕ → List ℕ
digits zero x = []
digits (suc n) x = cond (ltb x 10) ((48 + x) ∷ []) (digits n (x / 10) ++ ((48 + x % 10) ∷ []))

-- x in decimal: every number below 10 ^ 20, so every u64
unfoldable pub decimal : ℕ → List ℕ
decimal x = digits 20 x

-- the number b less 2 ^ 31 in decimal, with a minus sign where it is negative
unfoldable pub signed_decimal : ℕ → List ℕ
signed_decimal b = cond (ltb b (2 ^ 31)) (45 ∷ decimal (2 ^ 31 - b)) (decimal (b - 2 ^ 31))

-- the number z in decimal, with a minus sign where it is negative
abbrev pub signed_text : ℤ → List ℕ
signed_text (pos n) = decimal n
signed_text (negsuc n) = 45 ∷ decimal (suc n)

-- ---- a line: a name, a value, and a newline (10)

unfoldable pub line : List ℕ → List ℕ → List ℕ
line name value = name ++ value ++ (10 ∷ [])

-- ---- a text in the 192 bytes of a buffer: zeros behind it

abbrev pub padded : List ℕ → List ℕ
padded l = l ++ replicate (192 - length l) 0
