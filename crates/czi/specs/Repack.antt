-- What a repack gives to C.
use Rattle.std.specs.Prelude.{ℕ, ◌≡◌, List, length}
use Rattle.format.specs.Scan.{Scan}
use Rattle.format.specs.Checks.{number_of, place_of, if_accepted}
use Rattle.repacked.specs.NewFile.{repacked}
use Rattle.repacked.specs.Refusals.{size_verdict, repack_verdict}
use Rattle.repack.specs.Answers.{out_after}

-- the length of the new file of a scan, 0 where refused
pub record RepackSizeOut (sc : Scan) (number place size : ℕ) : Type 0 where
  pub number_is : number ≡ number_of (size_verdict sc)
  pub place_is : place ≡ place_of (size_verdict sc)
  pub size_is : size ≡ if_accepted (size_verdict sc) (length (repacked sc.file)) 0

-- the new file in a lent buffer, which held out and holds out': as it was lent where refused
pub record RepackOut (sc : Scan) (out out' : List ℕ) (number place written : ℕ) : Type 0 where
  pub number_is : number ≡ number_of (repack_verdict sc (length out))
  pub place_is : place ≡ place_of (repack_verdict sc (length out))
  pub written_is : written ≡ if_accepted (repack_verdict sc (length out)) (length (repacked sc.file)) 0
  pub out_is : out' ≡ out_after sc out
