-- What is asked by the numbers of a call for C about the tiles that a question selects, and what is answered.
use Rattle.std.specs.Prelude.{ℕ, ◌≡◌, List, not, length, eqb, ℤ}
use Rattle.format.specs.Checks.{number_of, place_of, if_accepted}
use Rattle.czi.specs.Lent.{release_of}
use Rattle.counting.specs.Chosen.{Sought, sought, chosen_verdict, counts_of, no_counts, marks_of}

-- any S counts unless any_scene is 0
abbrev pub chosen_asked : List ℕ → ℕ → List ℤ → ℕ → ℤ → ℤ → ℕ → ℕ → Sought
chosen_asked file release starts any_scene left top width height = sought file (release_of release) starts (not (eqb any_scene 0)) left top width height

-- the refusal's number and place, 0 and 0 where there is none; the counts, 0 where refused; the marks, from `before` to `after`, as they were where refused
pub record ChosenOut (q : Sought) (before after : List ℕ) (number place selected meeting : ℕ) : Type 0 where
  pub number_is : number ≡ number_of (chosen_verdict q (length before))
  pub place_is : place ≡ place_of (chosen_verdict q (length before))
  pub selected-is : selected ≡ (if_accepted (chosen_verdict q (length before)) (counts_of q) no_counts).selected
  pub meeting-is : meeting ≡ (if_accepted (chosen_verdict q (length before)) (counts_of q) no_counts).meeting
  pub marks-are : after ≡ if_accepted (chosen_verdict q (length before)) (marks_of q before) before
