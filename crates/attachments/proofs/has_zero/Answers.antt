-- `attachments::has_zero` meets its contract.
use Prim.Native.Nat.{◌+◌}
use native.Mathlib.Nat.{sub-zero}
use lib.Dec.{eqb}
use lib.ListN.{get_or}
use Rattle.std.proofs.Common.{rules, tests, ◌∙◌, refl}
use Rattle.std.proofs.lemmas.Iterator.{YieldsList-from_range}
use Rattle.std.proofs.lemmas.Iterator.Search.{any_from_yields_List}
use Rattle.format.proofs.Ranges.{any-range}
use Rattle.attachments.proofs.has_zero.Goals as goal

pub returns : goal.returns
returns c =
    any_from_yields_List (λ i. eqb (get_or c.args.s.now (c.args.p + i) 0) 0) _ _ _ c.any.ensures.ran (YieldsList-from_range 0 80 80 refl refl)
    (λ x b q k. search (rules, tests))
    ∙ any-range 80 (λ i. eqb (get_or c.args.s.now (c.args.p + i) 0) 0)
