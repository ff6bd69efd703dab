-- `listing::summary_of` meets its contract.
use Rattle.listing.proofs.Texts.{figures-are}
use Rattle.listing.proofs.summary_of.Goals as goal

pub returns : goal.returns
returns c = search figures-are
