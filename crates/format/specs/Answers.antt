-- What is answered to a question: for each kind of value the paper's number and place and the value, all zero where refused.
use Rattle.std.specs.Prelude.{◌≡◌, pos, Result, Option, None}
use Rattle.std.specs.Float.Ieee.{of_bits}
use Rattle.std.specs.Float.{binary32}
use Rattle.format.specs.Checks.{Verdict, number_of, place_of, if_accepted, answer_if, verdict_in, value_in}
use Rattle.format.specs.Records.{span}
use Rattle.format.specs.declared.Refusal.{Refusal}
use Rattle.format.specs.declared.Span.{Span}
use Rattle.format.specs.declared.Extent.{Extent}
use Rattle.format.specs.declared.Tile.{Tile}
use Rattle.format.specs.declared.Dimension.{Dimension}
use Rattle.format.specs.declared.Attachment.{Attachment}

-- ---- a verdict v is answered as r

pub record VerdictAnswered (v r : Verdict) : Type 0 where
  pub answer_is : r ≡ v
  pub number_is : number_of r ≡ number_of v
  pub place_is : place_of r ≡ place_of v

-- ---- a value x, by the verdict v, is answered as r: `none` is the value of a refused answer

pub record ValueAnswered {A : Type 0} (none : A) (v : Verdict) (x : A) (r : Result A Refusal) : Type 0 where
  pub answer_is : r ≡ answer_if v x
  pub number_is : number_of (verdict_in r) ≡ number_of v
  pub place_is : place_of (verdict_in r) ≡ place_of v
  pub value_is : value_in none r ≡ if_accepted v x none

-- ---- a part of the file

abbrev pub no_span : Span
no_span = span 0 0

-- by the verdict v the part s, which is the empty one at 0 where v refuses, is answered as r
pub record SpanAnswered (v : Verdict) (s : Span) (r : Result Span Refusal) : Type 0 where
  pub verdict-is : verdict_in r ≡ v
  pub number_is : number_of (verdict_in r) ≡ number_of v
  pub place_is : place_of (verdict_in r) ≡ place_of v
  pub span_is : value_in no_span r ≡ s

-- ---- the records

abbrev pub no_extent : Extent
no_extent = record { start = pos 0; size = 0; stored = 0 }

abbrev pub no_tile : Tile
no_tile =
    record {
      entry = 0;
      place = 0;
      pixel_type = 0;
      position = 0;
      pyramid = 0;
      dimensions = 0;
      x = no_extent;
      y = no_extent;
      m = None;
      layers = None;
      metadata = span 0 0;
      pixels = span 0 0;
      attachment = span 0 0;
      mask = None;
    }

abbrev pub TileAnswered : Verdict → Tile → Result Tile Refusal → Type 0
TileAnswered v t r = ValueAnswered no_tile v t r

abbrev pub no_dimension : Dimension
no_dimension = record { letter = 0; start = pos 0; size = 0; coordinate = of_bits binary32 0; coordinate_bits = 0; stored = 0 }

abbrev pub DimensionAnswered : Verdict → Dimension → Result Dimension Refusal → Type 0
DimensionAnswered v d r = ValueAnswered no_dimension v d r

abbrev pub no_attachment : Attachment
no_attachment = record { place = 0; position = 0; «data» = span 0 0 }

abbrev pub AttachmentAnswered : Verdict → Attachment → Result Attachment Refusal → Type 0
AttachmentAnswered v a r = ValueAnswered no_attachment v a r
