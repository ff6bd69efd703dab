-- `quote::refuse_short` meets its contract.
use Rattle.quote.proofs.Quoting.{short-stops, short-never}
use Rattle.quote.proofs.refuse_short.Goals as goal

pub returns-in-Err : goal.returns-in-Err
returns-in-Err c = search short-stops

pub returns-in-Ok : goal.returns-in-Ok
returns-in-Ok c = search short-never
