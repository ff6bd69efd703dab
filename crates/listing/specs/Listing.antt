-- The listing of a file: lines of plain ASCII text, each ended by a newline (10). A text is the list of its bytes.
use Rattle.std.specs.Prelude.{ℕ, List, [], ◌∷◌, ◌++◌, Bool, cond, Ok, Err, length, ltb}
use Rattle.format.specs.Scan.{scan_of}
use Rattle.format.specs.Bytes.{any_below}
use Rattle.format.specs.Segments.{walked}
use Rattle.format.specs.Directory.{tile_count}
use Rattle.format.specs.Attachments.{attachment_count}
use Rattle.format.specs.Rules.{verdict}
use Rattle.format.specs.declared.Release.{Release}
use Rattle.format.specs.Checks.{Verdict, number}
use Rattle.text.specs.Text.{decimal, signed_decimal, line}
use Rattle.listing.specs.Summary.{plain, left, top, right, bottom}

-- ---- the names

-- bytes=
unfoldable pub name_bytes : List ℕ
name_bytes = 98 ∷ 121 ∷ 116 ∷ 101 ∷ 115 ∷ 61 ∷ []

-- segments=
unfoldable pub name_segments : List ℕ
name_segments = 115 ∷ 101 ∷ 103 ∷ 109 ∷ 101 ∷ 110 ∷ 116 ∷ 115 ∷ 61 ∷ []

-- tiles=
unfoldable pub name_tiles : List ℕ
name_tiles = 116 ∷ 105 ∷ 108 ∷ 101 ∷ 115 ∷ 61 ∷ []

-- attachments=
unfoldable pub name_attachments : List ℕ
name_attachments = 97 ∷ 116 ∷ 116 ∷ 97 ∷ 99 ∷ 104 ∷ 109 ∷ 101 ∷ 110 ∷ 116 ∷ 115 ∷ 61 ∷ []

-- box=
unfoldable pub name_box : List ℕ
name_box = 98 ∷ 111 ∷ 120 ∷ 61 ∷ []

-- none
unfoldable pub word_none : List ℕ
word_none = 110 ∷ 111 ∷ 110 ∷ 101 ∷ []

-- refused=
unfoldable pub name_refused : List ℕ
name_refused = 114 ∷ 101 ∷ 102 ∷ 117 ∷ 115 ∷ 101 ∷ 100 ∷ 61 ∷ []

-- place=
unfoldable pub name_place : List ℕ
name_place = 112 ∷ 108 ∷ 97 ∷ 99 ∷ 101 ∷ 61 ∷ []

-- ---- the lines

-- left,top,right,bottom (a comma is 44), or none
abbrev pub corners_text : ℕ → ℕ → ℕ → ℕ → List ℕ
corners_text l t r b = signed_decimal l ++ (44 ∷ signed_decimal t) ++ (44 ∷ signed_decimal r) ++ (44 ∷ signed_decimal b)

unfoldable pub box_text : Bool → ℕ → ℕ → ℕ → ℕ → List ℕ
box_text some l t r b = cond some (corners_text l t r b) word_none

-- the lines of an accepted file, in this order
unfoldable pub figures_text : List ℕ → List ℕ
figures_text bs =
    line name_bytes (decimal (length bs)) ++
    line name_segments (decimal (length (walked bs))) ++
    line name_tiles (decimal (tile_count bs)) ++
    line name_attachments (decimal (attachment_count bs)) ++
    line name_box (box_text (any_below (tile_count bs) (plain bs)) (left bs) (top bs) (right bs) (bottom bs))

-- a refusal prints refused=N and place=N alone
unfoldable pub refusal_text : ℕ → ℕ → List ℕ
refusal_text n p = line name_refused (decimal n) ++ line name_place (decimal p)

-- ---- the listing, under a release

abbrev pub text_if : Verdict → List ℕ → List ℕ
text_if (Ok _) x = x
text_if (Err e) x = refusal_text (number e.fault) e.place

-- refusal 30, input over 65,536 bytes, goes before all
unfoldable pub listing_of : List ℕ → Release → List ℕ
listing_of bs r = cond (ltb 65536 (length bs)) (refusal_text 30 0) (text_if (verdict (scan_of bs r)) (figures_text bs))
