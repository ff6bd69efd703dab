-- What the composers are asked by the numbers of a call for C, and what they answer.
use Rattle.std.specs.Prelude.{ℕ, ◌≡◌, List, cond, not, eqb, ℤ}
use Rattle.plane.specs.Turns.{Kind}
use Rattle.question.specs.Call.{Asked, answer, target_after, map_after, number_in, place_in, covered_in, stored_in}
use Rattle.question.specs.declared.Masks.{Masks}
use Rattle.question.specs.declared.Masks.TheVariants.{NotChosen, On, Off}
use Rattle.question.specs.declared.WindowRequest.{WindowRequest}
use Rattle.compose.specs.Steps.{asked}
use Rattle.czi.specs.Lent.{release_of}

-- the masks choice of a number: 1 on, 2 off, any other not chosen
unfoldable pub choice_of : ℕ → Masks
choice_of n = cond (eqb n 1) On (cond (eqb n 2) Off NotChosen)

abbrev pub request_of : ℕ → ℤ → ℤ → ℕ → ℕ → ℕ → WindowRequest
request_of type left top width height masks =
    record { pixel_type = type; left = left; top = top; width = width; height = height; masks = choice_of masks }

-- what a call is asked, the lent target and map aside: any S counts unless any_scene is 0
abbrev pub plane_asked : List ℕ → ℕ → List ℤ → ℕ → ℕ → List ℕ → ℤ → ℤ → ℕ → ℕ → ℕ → Asked
plane_asked file release starts any_scene type background left top width height masks =
    asked file (release_of release) starts (not (eqb any_scene 0)) (request_of type left top width height masks) background

-- a plane by the composer k, from the lent target t and map m to t' and m'
pub record PlaneOut (k : Kind) (a : Asked) (t m t' m' : List ℕ) (number place covered stored : ℕ) : Type 0 where
  pub number_is : number ≡ number_in (answer k a t m)
  pub place_is : place ≡ place_in (answer k a t m)
  pub covered-is : covered ≡ covered_in (answer k a t m)
  pub stored_is : stored ≡ stored_in (answer k a t m)
  pub target_is : t' ≡ target_after k a t m
  pub map_is : m' ≡ map_after k a t m
