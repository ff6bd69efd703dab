-- The answer of a repack, where the new segments stand, and what the lent buffer holds in the end.
use Rattle.std.specs.Prelude.{ℕ, ◌≡◌, List, ◌++◌, Result, Ok, Err, length, drop}
use Rattle.format.specs.Scan.{Scan}
use Rattle.format.specs.Checks.{Verdict, Accepted, if_accepted}
use Rattle.format.specs.Rules.{AcceptedFile}
use Rattle.format.specs.Answers.{ValueAnswered}
use Rattle.format.specs.declared.Refusal.{Refusal}
use Rattle.repacked.specs.NewFile.{repacked}
use Rattle.repacked.specs.Refusals.{size_verdict, repack_verdict}
use Rattle.repack.specs.Places.{PlacesAre}
use Rattle.repack.specs.declared.sizes.Places.{Places}

-- by the verdict v on a file whose new one is n bytes long, r is answered: that length, 0 where refused
abbrev pub RepackAnswered : Verdict → ℕ → Result ℕ Refusal → Type 0
RepackAnswered v n r = ValueAnswered 0 v n r

-- the new segments of a scan that is not refused stand at p
pub record Placed (sc : Scan) (p : Places) : Type 0 where
  pub size : size_verdict sc ≡ Accepted
  pub accepted : AcceptedFile sc.file
  pub places : PlacesAre sc.file p

-- they are answered, or the refusal
abbrev pub PlacesAnswered : Scan → Result Places Refusal → Type 0
PlacesAnswered sc (Ok p) = Placed sc p
PlacesAnswered sc (Err e) = size_verdict sc ≡ Err e

-- ---- the lent buffer in the end: the new file at its start, what is past that as it was lent; refused, as it was lent

unfoldable pub out_after : Scan → List ℕ → List ℕ
out_after sc out = if_accepted (repack_verdict sc (length out)) (repacked sc.file ++ drop (length (repacked sc.file)) out) out
