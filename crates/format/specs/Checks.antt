-- The refusal table: its numbers, and its form: rows that are tried in their order, of which the first that is given decides.
use Rattle.std.specs.Prelude.{ℕ, zero, suc, List, [], ◌∷◌, ◌++◌, Bool, cond, Result, Ok, Err}
use Rattle.format.specs.declared.Fault.{Fault}
use Rattle.format.specs.declared.Fault.TheVariants as Fault
use Rattle.format.specs.declared.Refusal.{Refusal}

-- the number of a fault in the refusal table
abbrev pub number : Fault → ℕ
number Fault.Length = 1
number Fault.SegmentName = 2
number Fault.SegmentSizes = 3
number Fault.SegmentCount = 4
number Fault.FirstSegment = 5
number Fault.Major = 6
number Fault.FilePart = 7
number Fault.UpdatePending = 8
number Fault.Positions = 9
number Fault.Directory = 10
number Fault.Entry = 11
number Fault.PixelType = 12
number Fault.Compression = 13
number Fault.NamedSegment = 14
number Fault.Copy = 15
number Fault.Sizes = 16
number Fault.Chunk = 17
number Fault.Mask = 18
number Fault.Window = 20
number Fault.AskedPixel = 21
number Fault.LentTooShort = 22
number Fault.TileType = 23
number Fault.NoSuchNumber = 24
number Fault.RepackBuffer = 25
number Fault.TooLongToList = 30
number Fault.Comma = 34
number Fault.Settings = 35
number Fault.RepackTooLarge = 36

-- ---- verdicts

-- accepted, or refused for a fault at a place
abbrev pub Verdict : Type 0
Verdict = Result Unit Refusal

abbrev pub Accepted : Verdict
Accepted = Ok tt

abbrev pub refusal : Fault → ℕ → Refusal
refusal f p = record { fault = f; place = p }

abbrev pub Refused : Fault → ℕ → Verdict
Refused f p = Err (refusal f p)

-- a row of the table at one place: the fault, its place, and whether it is given there
pub record Check : Type 0 where
  pub fault : Fault
  pub place : ℕ
  pub given : Bool

abbrev pub row : Fault → ℕ → Bool → Check
row f p t = record { fault = f; place = p; given = t }

-- the first refusal that is given, or Accepted
abbrev pub first : List Check → Verdict
first [] = Accepted
first (c ∷ cs) = cond c.given (Refused c.fault c.place) (first cs)

-- the rows of 0, then of 1, .. of n - 1
unfoldable pub rows_below : ℕ → (ℕ → List Check) → List Check
rows_below zero f = []
rows_below (suc n) f = rows_below n f ++ f n

-- the first of two verdicts that refuses
abbrev pub and_then : Verdict → Verdict → Verdict
and_then (Ok _) w = w
and_then (Err e) w = Err e

-- one of two values, by whether a verdict accepts
abbrev pub if_accepted : {A : Type 0} → Verdict → A → A → A
if_accepted (Ok _) x y = x
if_accepted (Err e) x y = y

-- the refusal's number and place: 0 and 0 where there is none
abbrev pub number_of : Verdict → ℕ
number_of (Ok _) = 0
number_of (Err e) = number e.fault

abbrev pub place_of : Verdict → ℕ
place_of (Ok _) = 0
place_of (Err e) = e.place

-- ---- answers: a value, or a refusal

-- the answer by a verdict: the value where it accepts
abbrev pub answer_if : {A : Type 0} → Verdict → A → Result A Refusal
answer_if (Ok _) x = Ok x
answer_if (Err e) x = Err e

-- the verdict that an answer has
abbrev pub verdict_in : {A : Type 0} → Result A Refusal → Verdict
verdict_in (Ok x) = Accepted
verdict_in (Err e) = Err e

-- the value that an answer has: `none` where it is refused
abbrev pub value_in : {A : Type 0} → A → Result A Refusal → A
value_in none (Ok x) = x
value_in none (Err e) = none
