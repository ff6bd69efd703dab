-- `settings::settings_of` meets its contract.
use mathlib.Core.Path.{◌∙◌}
use Rattle.settings.specs.Settings.{name_pitch_x, name_pitch_y}
use Rattle.settings.proofs.FoundLines.{stops-at-edition, stops-at-x, stops-at-y, stops-at-masks, settings-are}
use Rattle.settings.proofs.settings_of.Goals as goal

pub returns-in_err-edition : goal.returns-in_err-edition
returns-in_err-edition c = c.from_residual.ensures ∙ stops-at-edition _ c.in_err-edition.ensures

pub returns-in_err-pitch_x : goal.returns-in_err-pitch_x
unfolding name_pitch_x
returns-in_err-pitch_x c =
    let e = c.in_ok-edition.ensures in
    c.from_residual-in_err-pitch_x.ensures ∙ stops-at-x _ e.0 _ e.2 c.in_err-pitch_x.ensures

pub returns-in_err-pitch_y : goal.returns-in_err-pitch_y
unfolding name_pitch_x name_pitch_y
returns-in_err-pitch_y c =
    let e = c.in_ok-edition.ensures in
    let x = c.in_ok-pitch_x.ensures in
    c.from_residual-in_err-pitch_y.ensures ∙ stops-at-y _ e.0 _ e.2 x.0 _ x.2 c.in_err-pitch_y.ensures

pub returns-in_err-masks : goal.returns-in_err-masks
unfolding name_pitch_x name_pitch_y
returns-in_err-masks c =
    let e = c.in_ok-edition.ensures in
    let x = c.in_ok-pitch_x.ensures in
    let y = c.in_ok-pitch_y.ensures in
    c.from_residual-in_err-masks.ensures ∙ stops-at-masks _ e.0 _ e.2 x.0 _ x.2 y.0 _ y.2 c.in_err-masks.ensures

pub returns : goal.returns
unfolding name_pitch_x name_pitch_y
returns c =
    let e = c.in_ok-edition.ensures in
    let x = c.in_ok-pitch_x.ensures in
    let y = c.in_ok-pitch_y.ensures in
    let m = c.in_ok-masks.ensures in
    settings-are _ e.0 _ e.2 x.0 _ x.2 y.0 _ y.2 m.0 _ _ _ _ e.1 x.1 y.1 m.1
