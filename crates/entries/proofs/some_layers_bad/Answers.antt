-- `entries::some_layers_bad` meets its contract.
use native.Mathlib.Nat.{sub-zero}
use Rattle.std.proofs.Common.{rules, tests, ◌∙◌, refl}
use Rattle.std.proofs.lemmas.Iterator.{YieldsList-from_range}
use Rattle.std.proofs.lemmas.Iterator.Search.{any_from_yields_List}
use Rattle.format.specs.Entry.{dimension_count, layers_bad}
use Rattle.format.proofs.Ranges.{any-range}
use Rattle.entries.proofs.some_layers_bad.Goals as goal

pub returns : goal.returns
returns c =
    any_from_yields_List (layers_bad c.args.s.now c.args.e) _ _ _ c.any.ensures.ran (YieldsList-from_range 0 c.dimension_count-n.result c.dimension_count-n.result refl (rw sub-zero))
    (λ x b q k. search (rules, tests))
    ∙ rw (← c.dimension_count-n.ensures.0) (any-range c.dimension_count-n.result (layers_bad c.args.s.now c.args.e))
