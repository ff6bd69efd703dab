-- `compose::Selected::begin` meets its contract.
use native.Mathlib.Omega.{arith}
use mathlib.Core.Path.{sym, ◌∙◌}
use Rattle.entries.proofs.EntryLaws.{pixel-bytes-few}
use Rattle.compose.proofs.WholeRun.{begun}
use Rattle.compose.proofs.Selected.begin.Goals as goal

pub fill-requires : goal.fill-requires
fill-requires c =
    let e = c.pixel_bytes-b.ensures in
    record {
      bytes = rw e c.requires.room.bytes;
      small = rw e (omega (arith, pixel-bytes-few c.args.self.now.question.request.pixel_type));
      target = rw e c.requires.room.target;
      pixel = c.requires.w_bound.1 ∙ sym e;
    }

pub returns : goal.returns
returns c = search begun
