-- `entries::other_size_bad` meets its contract.
use Prim.Native.Nat.{◌≤◌, ◌<◌}
use mathlib.Core.Path.{◌≡◌}
use mathlib.Core.Bool.{false, not}
use native.Mathlib.Omega.{arith}
use lib.Dec.{eqb, ltb}
use borrow.Author.Tests.{lt-ltb, le-ltb, eq-eqb, ne_eqb}
use Rattle.format.specs.Entry.{letter, size, stored, most_size, other_size_bad}
use Rattle.format.proofs.Flags.{flags, any_here, any-later, any-skip, any_none, not-is-true, not-is-false}
use Rattle.entries.proofs.other_size_bad.Goals as goal

-- behind the last test: what each test says, by that test alone
passed-1 : (c : goal.Else-stored_at-size) → eqb (size c.args.s.now c.args.d) 0 ≡ false
passed-1 c =
    let h : (c.size_at-size.result ≡ 0) → ⊥ = λ e. omega arith in
    rw (← c.size_at-size.ensures.0) (ne_eqb _ _ h)

passed-2 : (c : goal.Else-stored_at-size) → ltb (most_size (letter c.args.s.now c.args.d)) (size c.args.s.now c.args.d) ≡ false
passed-2 c =
    let h : c.size_at-size.result ≤ c.most_size.result = omega arith in
    rw (← c.size_at-size.ensures.0, ← c.letter_at.ensures.0, ← c.most_size.ensures) (le-ltb _ _ h)

passed-3 : (c : goal.Else-stored_at-size) → not (eqb (stored c.args.s.now c.args.d) (size c.args.s.now c.args.d)) ≡ false
passed-3 c =
    let h : c.stored_at.result ≡ c.size_at-size.result = omega arith in
    rw (← c.size_at-size.ensures.0, ← c.stored_at.ensures) (not-is-false _ (eq-eqb _ _ h))

pub returns-then-size-eq0 : goal.returns-then-size-eq0
unfolding other_size_bad
returns-then-size-eq0 c = let h : c.size_at-size.result ≡ 0 = omega arith in search flags depth 8

pub returns-then-most_size-size : goal.returns-then-most_size-size
unfolding other_size_bad
returns-then-most_size-size c =
    let h : c.most_size.result < c.size_at-size.result = omega arith in
    any-later _ _
    (any_here _ _ (rw (← c.size_at-size.ensures.0, ← c.letter_at.ensures.0, ← c.most_size.ensures) (lt-ltb _ _ h)))

pub returns-then-stored_at-size : goal.returns-then-stored_at-size
unfolding other_size_bad
returns-then-stored_at-size c =
    let h : (c.stored_at.result ≡ c.size_at-size.result) → ⊥ = λ e. omega arith in
    any-later _ _ (any-later _ _ (any_here _ _ (rw (← c.size_at-size.ensures.0, ← c.stored_at.ensures) (not-is-true _ (ne_eqb _ _ h)))))

pub returns : goal.returns
unfolding other_size_bad
returns c = any-skip _ _ _ (passed-1 c) (any-skip _ _ _ (passed-2 c) (any-skip _ _ _ (passed-3 c) any_none))
