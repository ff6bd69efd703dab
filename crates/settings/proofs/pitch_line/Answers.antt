-- `settings::pitch_line` meets its contract.
use Rattle.settings.proofs.FoundLines.{no-name, no-pitch, no-end, line-right, line-pitch, line-behind}
use Rattle.settings.proofs.pitch_line.Goals as goal

pub returns-in_err-strip_prefix : goal.returns-in_err-strip_prefix
returns-in_err-strip_prefix c = rw c.from_residual.ensures (no-name _ _ c.requires c.in_err-strip_prefix.ensures.cases)

pub returns-in_err-pitch : goal.returns-in_err-pitch
returns-in_err-pitch c =
    let e = c.in_ok-strip_prefix.ensures.cases in
    rw c.from_residual-in_err-pitch.ensures (no-pitch _ _ c.requires e.0 _ e.1 c.in_err-pitch.ensures)

pub returns-in_err-behind : goal.returns-in_err-behind
returns-in_err-behind c =
    let e = c.in_ok-strip_prefix.ensures.cases in
    let p = c.in_ok-pitch.ensures in
    rw c.from_residual-in_err-behind.ensures (no-end _ _ c.requires e.0 _ e.1 _ p.2 p.0 c.in_err-behind.ensures.cases)

pub returns : goal.returns
returns c =
    let e = c.in_ok-strip_prefix.ensures.cases in
    let p = c.in_ok-pitch.ensures in
    let b = c.in_ok-behind.ensures.cases in (
      line-right _ _ c.requires e.0 _ e.1 _ p.2 p.0 b.0,
      line-pitch _ _ c.requires e.0 _ e.1 _ p.1,
      line-behind _ _ c.requires e.0 _ e.1 _ p.2 _ b.1,
    )
