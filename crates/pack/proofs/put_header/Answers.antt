-- `pack::put_header` meets its contract.
use Rattle.pack.proofs.Pieces.{header-put}
use Rattle.pack.proofs.put_header.Goals as goal

pub returns : goal.returns
returns c = search header-put
