-- What the release is to a composer (paper 02, Req 05), as a claim about any call; `proofs/Releases` proves it.
use Rattle.std.specs.Prelude.{ℕ, ◌≡◌, List, false}
use Rattle.format.specs.Scan.{scan_of}
use Rattle.format.specs.Rules.{verdict}
use Rattle.format.specs.Releases.{NoChunkRefused}
use Rattle.format.specs.declared.Release.{Release}
use Rattle.format.specs.declared.Release.TheVariants.{R102, R12}
use Rattle.plane.specs.Turns.{Kind}
use Rattle.question.specs.Question.{masks_on}
use Rattle.question.specs.Call.{Asked, chosen, call_verdict, selected, answer, target_after, map_after}
use Rattle.question.specs.declared.Masks.{Masks}

-- the same call under the release r
abbrev pub under : Release → Asked → Asked
under r a = record { scan = scan_of a.scan.file r; starts = a.starts; any_scene = a.any_scene; request = a.request; background = a.background }

-- the same call with another masks choice
abbrev pub choosing : Masks → Asked → Asked
choosing c a = record {
  scan = a.scan;
  starts = a.starts;
  any_scene = a.any_scene;
  request = record {
    pixel_type = a.request.pixel_type;
    left = a.request.left;
    top = a.request.top;
    width = a.request.width;
    height = a.request.height;
    masks = c;
  };
  background = a.background;
}

-- two calls agree: the same answer, refusals included, and the same bytes in target and map in the end, whatever was lent
pub record SameCalls (a b : Asked) : Type 0 where
  pub same_answer : (k : Kind) (t m : List ℕ) → answer k a t m ≡ answer k b t m
  pub same_target : (k : Kind) (t m : List ℕ) → target_after k a t m ≡ target_after k b t m
  pub same_map : (k : Kind) (t m : List ℕ) → map_after k a t m ≡ map_after k b t m

pub record CallReleases (a : Asked) : Type 0 where
  -- the same refusal or none, masks on too, of any lent lengths, unless 1.2 gives 17 or 18; and under 1.02 neither is given
  pub alike : NoChunkRefused (verdict (scan_of a.scan.file R12)) → (r : Release) (target map : ℕ)
      → call_verdict (under r a) target map ≡ call_verdict (under R12 a) target map
  pub never : (target map : ℕ) → NoChunkRefused (call_verdict (under R102 a) target map)
  -- neither the release nor the masks choice selects a tile
  pub same_chosen : (c d : Masks) (r : Release) (k : ℕ) → chosen (choosing c (under r a)) k ≡ chosen (choosing d (under R12 a)) k
  -- with masks off, two calls that differ in the release alone have the same tiles, and agree unless 1.2 gives 17 or 18
  pub off-selected : masks_on a.request.masks ≡ false → (r : Release) → selected (under r a) ≡ selected (under R12 a)
  pub off_same : masks_on a.request.masks ≡ false → NoChunkRefused (verdict (scan_of a.scan.file R12)) → (r : Release)
      → SameCalls (under r a) (under R12 a)
  -- under 1.02 the masks choice changes nothing: on, off or not chosen
  pub older-selected : (c d : Masks) → selected (choosing c (under R102 a)) ≡ selected (choosing d (under R102 a))
  pub older_same : (c d : Masks) → SameCalls (choosing c (under R102 a)) (choosing d (under R102 a))

abbrev pub AllCallReleases : Type 0
AllCallReleases = (a : Asked) → CallReleases a
