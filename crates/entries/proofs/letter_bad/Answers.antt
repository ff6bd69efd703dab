-- `entries::letter_bad` meets its contract.
use Prim.Native.Nat.{◌<◌, ◌≤◌}
use native.Mathlib.Omega.{arith}
use Rattle.format.specs.Entry.{letter_bad}
use Rattle.format.proofs.Flags.{flags}
use Rattle.entries.proofs.letter_bad.Goals as goal

pub returns-then-letter-lt65 : goal.returns-then-letter-lt65
unfolding letter_bad
returns-then-letter-lt65 c = let h : c.letter_at-letter.result < 65 = omega arith in search flags depth 8

pub returns-then-letter-gt90 : goal.returns-then-letter-gt90
unfolding letter_bad
returns-then-letter-gt90 c = let h : 90 < c.letter_at-letter.result = omega arith in search flags depth 8

pub returns : goal.returns
unfolding letter_bad
returns c = let h : c.letter_at-letter.result ≤ 90 = omega arith in search flags depth 8
