-- The table that selecting leaves: for each entry its place where it is selected, and 0 where it is not. No entry stands at 0.
use Rattle.std.specs.Prelude.{ℕ, ◌<◌, ◌≤◌, ◌≡◌, List, Bool, cond, length, get_or, ℤ}
use Rattle.format.specs.Directory.{tile_count, entry_place}
use Rattle.selection.specs.Select.{selects}

-- the answer r and the table after selecting, where it was `before` before: past the entries it keeps what it held
pub record Selection (bs : List ℕ) (starts : List ℤ) (any_scene : Bool) (before after : List ℕ) (r : ℕ) : Type 0 where
  pub count-is : r ≡ tile_count bs
  pub size_is : length after ≡ length before
  pub entry-is : (k : ℕ) → k < tile_count bs → get_or after k 0 ≡ cond (selects bs starts any_scene (entry_place bs k)) (entry_place bs k) 0
  pub rest-is : (k : ℕ) → tile_count bs ≤ k → get_or after k 0 ≡ get_or before k 0
