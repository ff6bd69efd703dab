-- `entries::some_closes` meets its contract.
use native.Mathlib.Nat.{sub-zero}
use Rattle.std.proofs.Common.{rules, tests, ◌∙◌, refl}
use Rattle.std.proofs.lemmas.Iterator.{YieldsList-from_range}
use Rattle.std.proofs.lemmas.Iterator.Search.{any_from_yields_List}
use Rattle.format.specs.Entry.{dimension_count, closes_plane}
use Rattle.format.proofs.Ranges.{any-range}
use Rattle.entries.proofs.some_closes.Goals as goal

pub returns : goal.returns
returns c =
    any_from_yields_List (closes_plane c.args.s.now c.args.e) _ _ _ c.any.ensures.ran (YieldsList-from_range 0 c.dimension_count-n.result c.dimension_count-n.result refl (rw sub-zero))
    (λ x b q k. search (rules, tests))
    ∙ rw (← c.dimension_count-n.ensures.0) (any-range c.dimension_count-n.result (closes_plane c.args.s.now c.args.e))
