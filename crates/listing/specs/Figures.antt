-- What the code carries on the way to the summary and the listing: the box's corners as they are compared, and the text of a summary.
use Rattle.std.specs.Prelude.{ℕ, min, max, List, ◌∷◌, ◌++◌, cond, Option, Some, None}
use Rattle.format.specs.Bytes.{any_below}
use Rattle.format.specs.Entry.{letter_place, is_pyramid}
use Rattle.format.specs.Directory.{entry_place}
use Rattle.text.specs.Text.{decimal, signed_text, line}
use Rattle.listing.specs.Summary.{plain, least_of, greatest_of, near_edge, far_edge, tile_box}
use Rattle.listing.specs.Listing.{name_bytes, name_segments, name_tiles, name_attachments, name_box, word_none}
use Rattle.listing.specs.declared.TileBox.{TileBox}
use Rattle.listing.specs.declared.Corners.{Corners}
use Rattle.listing.specs.declared.Summary.{Summary}

-- ---- the corners

-- the box over the tiles below n
unfoldable pub corners_below : List ℕ → ℕ → Option Corners
corners_below bs n =
    cond (any_below n (plain bs))
    (Some
    (record {
      left = least_of n (plain bs) (λ k. near_edge bs (letter_place bs (entry_place bs k) 88));
      top = least_of n (plain bs) (λ k. near_edge bs (letter_place bs (entry_place bs k) 89));
      right = greatest_of n (plain bs) (λ k. far_edge bs (letter_place bs (entry_place bs k) 88));
      bottom = greatest_of n (plain bs) (λ k. far_edge bs (letter_place bs (entry_place bs k) 89));
    }))
    None

-- the corners of the tile of the entry at e
unfoldable pub tile_corners : List ℕ → ℕ → Corners
tile_corners bs e =
    record {
      left = near_edge bs (letter_place bs e 88);
      top = near_edge bs (letter_place bs e 89);
      right = far_edge bs (letter_place bs e 88);
      bottom = far_edge bs (letter_place bs e 89);
    }

-- the corners of the least box that holds both
abbrev pub joined : Corners → Corners → Corners
joined a b = record { left = min a.left b.left; top = min a.top b.top; right = max a.right b.right; bottom = max a.bottom b.bottom }

abbrev pub joined_with : Corners → Option Corners → Corners
joined_with a None = a
joined_with a (Some b) = joined a b

-- the box that takes in the entry at e too, unless it is a pyramid tile's
unfoldable pub with_tile : List ℕ → ℕ → Option Corners → Option Corners
with_tile bs e c = cond (is_pyramid bs e) c (Some (joined_with (tile_corners bs e) c))

-- ---- the figures

abbrev pub bounds_by : Option Corners → Option TileBox
bounds_by None = None
bounds_by (Some c) = Some (tile_box c.left c.top c.right c.bottom)

abbrev pub box_by : Option TileBox → List ℕ
box_by None = word_none
box_by (Some b) = signed_text b.left ++ (44 ∷ signed_text b.top) ++ (44 ∷ signed_text b.right) ++ (44 ∷ signed_text b.bottom)

unfoldable pub text_by : Summary → List ℕ
text_by s =
    line name_bytes (decimal s.bytes) ++
    line name_segments (decimal s.segments) ++
    line name_tiles (decimal s.tiles) ++
    line name_attachments (decimal s.attachments) ++
    line name_box (box_by s.bounds)
