-- From what was answered about the tiles that a question selects to what is given to C. Assumes nothing.
use Prim.Native.Nat.{ℕ, ◌^◌, ◌<◌}
use mathlib.Core.Path.{◌≡◌}
use mathlib.Core.List.{List}
use mathlib.Core.Bool.{Bool}
use lib.IntN.{ℤ}
use lib.Signed.{mag}
use mir.Syntax.{w32}
use mir.Val.{of_z, to_z}
use Rattle.std.specs.Prelude.{Result}
use Rattle.std.specs.Result.{result_unwrap_or}
use Rattle.format.specs.Checks.{number_of, place_of, verdict_in}
use Rattle.format.specs.declared.Refusal.{Refusal}
use Rattle.format.specs.declared.Release.{Release}
use Rattle.entries.proofs.ReadBack.{read_back}
use Rattle.counting.specs.Chosen.{sought, no_counts, ChosenAnswered}
use Rattle.counting.specs.declared.ChosenCounts.{ChosenCounts}
use Rattle.czi.specs.Chosen.{ChosenOut}
use Rattle.czi.proofs.Out.{unwrapped}

-- what was answered about left and top as their bits, said of left and top
pub chosen-out : (left top : ℤ) {bs : List ℕ} {rel : Release} {starts : List ℤ} {any : Bool} {width height : ℕ} {before after : List ℕ}
    {r : Result ChosenCounts Refusal} {c : ChosenCounts} {number place : ℕ}
    → ChosenAnswered (sought bs rel starts any (to_z w32 (of_z w32 left)) (to_z w32 (of_z w32 top)) width height) before after r
    → mag left < 2 ^ 31 → mag top < 2 ^ 31 → number ≡ number_of (verdict_in r) → place ≡ place_of (verdict_in r) → c ≡ result_unwrap_or r no_counts
    → ChosenOut (sought bs rel starts any left top width height) before after number place c.selected c.meeting
chosen-out left top {r = r} h l t en ep ec =
    let u = unwrapped no_counts r in
    rw (← read_back left l, ← read_back top t)
    (record { number_is = cc; place_is = cc; selected-is = cc; meeting-is = cc; marks-are = h.marks-are })
