-- The summary of a file: its length, how many segments, tiles and attachments it has, and the box of its tiles.
-- Plane coordinates are kept plus 2 ^ 31, so that they are compared as numbers that are not negative.
use Rattle.std.specs.Prelude.{ℕ, zero, suc, ◌+◌, min, max, List, Bool, cond, not, length, ℤ, Option, Some, None, Result}
use Rattle.format.specs.Bytes.{any_below, signed32, biased}
use Rattle.format.specs.Checks.{Verdict}
use Rattle.format.specs.Answers.{ValueAnswered}
use Rattle.format.specs.Segments.{walked}
use Rattle.format.specs.Entry.{start, size, letter_place, is_pyramid}
use Rattle.format.specs.Directory.{tile_count, entry_place}
use Rattle.format.specs.Attachments.{attachment_count}
use Rattle.format.specs.declared.Refusal.{Refusal}
use Rattle.listing.specs.declared.TileBox.{TileBox}
use Rattle.listing.specs.declared.Summary.{Summary}

-- ---- the tiles that aren't pyramid tiles

-- tile k is one. Tiles are entries
unfoldable pub plain : List ℕ → ℕ → Bool
plain bs k = not (is_pyramid bs (entry_place bs k))

-- the least f k of the picked numbers k below n; 2 ^ 32 where there is none
unfoldable pub least_of : ℕ → (ℕ → Bool) → (ℕ → ℕ) → ℕ
least_of zero pick f = 4294967296
least_of (suc n) pick f = cond (pick n) (min (f n) (least_of n pick f)) (least_of n pick f)

-- the greatest; 0 where there is none
unfoldable pub greatest_of : ℕ → (ℕ → Bool) → (ℕ → ℕ) → ℕ
greatest_of zero pick f = 0
greatest_of (suc n) pick f = cond (pick n) (max (f n) (greatest_of n pick f)) (greatest_of n pick f)

-- ---- the box over them: left,top,right,bottom, right and bottom exclusive

-- where the dimension at d begins, and where it ends
unfoldable pub near_edge : List ℕ → ℕ → ℕ
near_edge bs d = biased (start bs d)

unfoldable pub far_edge : List ℕ → ℕ → ℕ
far_edge bs d = biased (start bs d) + size bs d

-- X is 88, Y is 89
unfoldable pub left : List ℕ → ℕ
left bs = least_of (tile_count bs) (plain bs) (λ k. near_edge bs (letter_place bs (entry_place bs k) 88))

unfoldable pub top : List ℕ → ℕ
top bs = least_of (tile_count bs) (plain bs) (λ k. near_edge bs (letter_place bs (entry_place bs k) 89))

unfoldable pub right : List ℕ → ℕ
right bs = greatest_of (tile_count bs) (plain bs) (λ k. far_edge bs (letter_place bs (entry_place bs k) 88))

unfoldable pub bottom : List ℕ → ℕ
bottom bs = greatest_of (tile_count bs) (plain bs) (λ k. far_edge bs (letter_place bs (entry_place bs k) 89))

-- the signed number of a coordinate that is kept plus 2 ^ 31
abbrev pub unshifted : ℕ → ℤ
unshifted x = signed32 (biased x)

-- the box with these corners
abbrev pub tile_box : ℕ → ℕ → ℕ → ℕ → TileBox
tile_box l t r b = record { left = unshifted l; top = unshifted t; right = unshifted r; bottom = unshifted b }

-- where there is a tile in it
unfoldable pub bounds_of : Bool → ℕ → ℕ → ℕ → ℕ → Option TileBox
bounds_of some l t r b = cond some (Some (tile_box l t r b)) None

-- ---- the summary

unfoldable pub summary_of : List ℕ → Summary
summary_of bs =
    record {
      bytes = length bs;
      segments = length (walked bs);
      tiles = tile_count bs;
      attachments = attachment_count bs;
      bounds = bounds_of (any_below (tile_count bs) (plain bs)) (left bs) (top bs) (right bs) (bottom bs);
    }

-- ---- the answer, by the verdict: its values are all zero where it is refused

abbrev pub no_summary : Summary
no_summary = record { bytes = 0; segments = 0; tiles = 0; attachments = 0; bounds = None }

-- by the verdict v the summary s is answered as r
abbrev pub SummaryAnswered : Verdict → Summary → Result Summary Refusal → Type 0
SummaryAnswered v s r = ValueAnswered no_summary v s r
