-- `czi::verdict::czi_pixel_bytes` meets its contract.
use native.Mathlib.Omega.{arith}
use Rattle.entries.proofs.EntryLaws.{pixel-bytes-few}
use Rattle.czi.proofs.verdict.czi_pixel_bytes.Goals as goal

pub overflow_cast-result : goal.overflow_cast-result
overflow_cast-result c = omega (arith, c.pixel_bytes.ensures, pixel-bytes-few c.args.pixel_type)
