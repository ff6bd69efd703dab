-- `czi::verdict::czi_judge` meets its contract.
use Rattle.czi.proofs.Out.{judged-out}
use Rattle.czi.proofs.verdict.czi_judge.Goals as goal

pub returns : goal.returns
returns c = search judged-out
