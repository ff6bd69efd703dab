-- `settings::edition_line` meets its contract.
use Rattle.text.specs.Text.{line}
use Rattle.settings.specs.Settings.{name_edition}
use Rattle.settings.proofs.FoundLines.{first-edition, no-edition, second-edition}
use Rattle.settings.proofs.edition_line.Goals as goal

pub returns-in-Some : goal.returns-in-Some
unfolding line name_edition
returns-in-Some c =
    let e = c.in-Some.ensures.cases in
    let f = first-edition _ e.0 in
    (f.0, f.1, e.1)

pub returns-in_err-behind : goal.returns-in_err-behind
unfolding line name_edition
returns-in_err-behind c = rw c.from_residual.ensures (no-edition _ c.in_default.ensures.cases c.in_err-behind.ensures.cases)

pub returns : goal.returns
unfolding line name_edition
returns c =
    let e = c.in_ok-behind.ensures.cases in
    let f = second-edition _ c.in_default.ensures.cases e.0 in
    (f.0, f.1, e.1)
