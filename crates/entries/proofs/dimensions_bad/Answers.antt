-- `entries::dimensions_bad` meets its contract.
use Rattle.format.specs.Entry.{dimensions_bad}
use Rattle.format.proofs.Flags.{flags, any_here, any-later, any-skip, any_none, is_true, is_false, not-is-true, not-is-false}
use Rattle.entries.proofs.dimensions_bad.Goals as goal

pub returns-then-some_bad : goal.returns-then-some_bad
unfolding dimensions_bad
returns-then-some_bad c = search flags depth 8

pub returns-then-some_repeats : goal.returns-then-some_repeats
unfolding dimensions_bad
returns-then-some_repeats c = search flags depth 8

pub returns-then-not-some_closes : goal.returns-then-not-some_closes
unfolding dimensions_bad
returns-then-not-some_closes c = any-later _ _ (any-later _ _ (any_here _ _ (not-is-true _ (is_false _ _ c.some_closes.ensures c.if-not-some_closes.true))))

pub returns-then-some_layers_bad : goal.returns-then-some_layers_bad
unfolding dimensions_bad
returns-then-some_layers_bad c =
    any-later _ _
    (any-later _ _ (any-later _ _ (any_here _ _ (is_true _ _ c.some_layers_bad.ensures c.if-some_layers_bad.true))))

pub returns : goal.returns
unfolding dimensions_bad
returns c =
    any-skip _ _ _ (is_false _ _ c.some_bad.ensures c.if-some_bad.false)
    (any-skip _ _ _ (search is_false)
    (any-skip _ _ _ (not-is-false _ (is_true _ _ c.some_closes.ensures c.if-not-some_closes.false))
    (any-skip _ _ _ (search is_false) any_none)))
