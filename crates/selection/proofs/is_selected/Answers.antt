-- `selection::is_selected` meets its contract.
use Rattle.std.proofs.Common.{rules, tests, ◌∙◌, refl}
use Rattle.std.proofs.lemmas.Iterator.{YieldsList-from_range}
use Rattle.std.proofs.lemmas.Iterator.Search.{all_from_yields_List}
use Rattle.selection.specs.Select.{has_start}
use Rattle.selection.proofs.Selecting.{letters-fit, pyramid-none}
use Rattle.selection.proofs.is_selected.Goals as goal

pub returns-then-not-is_pyramid : goal.returns-then-not-is_pyramid
returns-then-not-is_pyramid c =
    all_from_yields_List (has_start c.args.s.now c.args.e c.args.starts.now c.args.any_scene) _ _ _ c.all.ensures.ran (YieldsList-from_range 65 91 26 refl refl)
    (λ x b q k. search (rules, tests))
    ∙ search letters-fit

pub returns-else-not-is_pyramid : goal.returns-else-not-is_pyramid
returns-else-not-is_pyramid c = search pyramid-none
