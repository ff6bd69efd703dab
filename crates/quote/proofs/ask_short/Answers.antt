-- `quote::ask_short` meets its contract.
use Rattle.quote.proofs.Quoting.{short-asked}
use Rattle.quote.proofs.ask_short.Goals as goal

pub returns : goal.returns
returns c = search short-asked
