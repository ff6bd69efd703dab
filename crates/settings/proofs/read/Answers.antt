-- `settings::read` meets its contract.
use Rattle.settings.proofs.Answering.{comma-refused, settings-read}
use Rattle.settings.proofs.read.Goals as goal

pub returns-in-Some : goal.returns-in-Some
returns-in-Some c = comma-refused _ _ c.first_comma.ensures _ c.in-Some.is

pub returns : goal.returns
returns c = settings-read _ _ c.first_comma.ensures c.in_default.is _ c.settings_of.ensures _ c.ok_or.ensures.value
