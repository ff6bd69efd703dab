-- `entries::layers_bad` meets its contract.
use mathlib.Core.Path.{◌≡◌, refl}
use mathlib.Core.Bool.{true, false}
use Rattle.format.specs.Bytes.{any_below}
use Rattle.format.specs.Entry.{has_letter, has_layers, layers_bad}
use Rattle.format.proofs.Flags.{cond-true, cond-false, any_here, any-later, any-skip, any_none, not-is-true, not-is-false, is_true, is_false}
use Rattle.entries.proofs.layers_bad.Goals as goal

pub returns-then-not-has_layers : goal.returns-then-not-has_layers
unfolding layers_bad
returns-then-not-has_layers c = cond-false _ _ _ _ (is_false _ _ c.has_layers.ensures c.if-not-has_layers.true) refl

pub returns-then-layers_below : goal.returns-then-layers_below
unfolding layers_bad
returns-then-layers_below c =
    cond-true _ _ _ _ (is_true _ _ c.has_layers.ensures c.if-not-has_layers.false)
    (any_here _ _ (is_true _ _ c.layers_below.ensures c.if-layers_below.true))

pub returns-then-not-holds_below : goal.returns-then-not-holds_below
unfolding layers_bad
returns-then-not-holds_below c =
    cond-true _ _ _ _ (is_true _ _ c.has_layers.ensures c.if-not-has_layers.false)
    (any-later _ _ (any_here _ _ (not-is-true _ (is_false _ _ c.holds_below.ensures c.if-not-holds_below.true))))

-- behind the last test: what the second says and the third, by that test alone
passed-2 : (c : goal.Else-not-holds_below) → any_below c.args.j (has_layers c.args.s.now c.args.e) ≡ false
passed-2 c = is_false _ _ c.layers_below.ensures c.if-layers_below.false

passed-3 : (c : goal.Else-not-holds_below) → any_below c.args.j (has_letter c.args.s.now c.args.e 89) ≡ true
passed-3 c = is_true _ _ c.holds_below.ensures c.if-not-holds_below.false

pub returns : goal.returns
unfolding layers_bad
returns c =
    cond-true _ _ _ _ (is_true _ _ c.has_layers.ensures c.if-not-has_layers.false)
    (any-skip _ _ _ (passed-2 c) (any-skip _ _ _ (not-is-false _ (passed-3 c)) any_none))
