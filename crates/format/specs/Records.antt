-- What is handed out of an accepted file: the records of a tile, of a dimension, of an attachment, and the stretches of the views.
use Rattle.std.specs.Prelude.{ℕ, ◌+◌, List, [], ◌∷◌, ◌++◌, cond, eqb, leb, ℤ, Option, Some, None}
use Rattle.std.specs.Float.Ieee.{of_bits}
use Rattle.std.specs.Float.{binary32}
use Rattle.format.specs.Bytes.{any_below, signed32}
use Rattle.format.specs.Checks.{Verdict, row, first, if_accepted}
use Rattle.format.specs.Scan.{Scan, block_file}
use Rattle.format.specs.File.{metadata_position, attachment_directory_position}
use Rattle.format.specs.Entry.{pixel_type, file_position, pyramid_byte, dimension_count, letter, start, size, coordinate_bits, stored, dimension_place, has_letter, letter_place}
use Rattle.format.specs.Entry.{is_layered, layers_place}
use Rattle.format.specs.SubBlock.{metadata_size, attachment_size, data_size, metadata_place, pixels_place, attachment_place}
use Rattle.format.specs.Masks.{mask_from, has_chunks}
use Rattle.format.specs.Directory.{tile_count, entry_place}
use Rattle.format.specs.Attachments.{xml_size, xml_attachment_size, attachment_entry, attachment_position, attachment_data_size}
use Rattle.format.specs.Rules.{checks, verdict, tile_verdict, attachment_verdict}
use Rattle.format.specs.declared.Release.{Release}
use Rattle.format.specs.declared.Span.{Span}
use Rattle.format.specs.declared.Fault.TheVariants as Fault
use Rattle.format.specs.declared.Extent.{Extent}
use Rattle.format.specs.declared.Layers.{Layers}
use Rattle.format.specs.declared.Tile.{Tile}
use Rattle.format.specs.declared.TileMask.{TileMask}
use Rattle.format.specs.declared.Dimension.{Dimension}
use Rattle.format.specs.declared.Attachment.{Attachment}

-- ---- entry n of a scan: where it stands, the file that it names, and where its sub-block stands there

abbrev pub tile_entry : Scan → ℕ → ℕ
tile_entry sc n = entry_place sc.file n

abbrev pub tile_file : Scan → ℕ → List ℕ
tile_file sc n = block_file sc (tile_entry sc n)

abbrev pub tile_position : Scan → ℕ → ℕ
tile_position sc n = file_position sc.file (tile_entry sc n)

-- ---- stretches of the file

abbrev pub span : ℕ → ℕ → Span
span p n = record { start = p; length = n }

-- a stretch where a verdict accepts, the empty one where it refuses
abbrev pub span_if : Verdict → Span → Span
span_if v s = if_accepted v s (span 0 0)

-- ---- the parts of the sub-block at q of the file bs, its entry at e of the file ds

unfoldable pub metadata_span : List ℕ → ℕ → List ℕ → ℕ → Span
metadata_span ds e bs q = span (metadata_place ds e q) (metadata_size bs q)

unfoldable pub pixels_span : List ℕ → ℕ → List ℕ → ℕ → Span
pixels_span ds e bs q = span (pixels_place ds e bs q) (data_size bs q)

unfoldable pub attachment_span : List ℕ → ℕ → List ℕ → ℕ → Span
attachment_span ds e bs q = span (attachment_place ds e bs q) (attachment_size bs q)

-- its mask, under 1.02 none: a tile with no mask is valid everywhere
unfoldable pub mask_of : List ℕ → ℕ → List ℕ → ℕ → Release → Option TileMask
mask_of ds e bs q r =
    cond (has_chunks ds e bs q r)
    (mask_from (attachment_size bs q) bs (attachment_place ds e bs q + attachment_size bs q) (attachment_place ds e bs q))
    None

-- ---- the tile record

-- the dimension at d as X or Y
unfoldable pub extent_at : List ℕ → ℕ → Extent
extent_at bs d = record { start = signed32 (start bs d); size = size bs d; stored = stored bs d }

-- M (77), if the entry has one
unfoldable pub m_index_of : List ℕ → ℕ → Option ℤ
m_index_of bs e = cond (any_below (dimension_count bs e) (has_letter bs e 77)) (Some (signed32 (start bs (letter_place bs e 77)))) None

-- the dimension at d as layers
abbrev pub layers_at : List ℕ → ℕ → Layers
layers_at bs d = record { letter = letter bs d; start = signed32 (start bs d); size = size bs d }

-- the letter, the start and the size of its layers, if it has any
unfoldable pub layers_of : List ℕ → ℕ → Option Layers
layers_of bs e = cond (is_layered bs e) (Some (layers_at bs (layers_place bs e))) None

-- of entry n, which stands at e of the file ds, and its sub-block at q of the file bs
unfoldable pub tile_at : ℕ → List ℕ → ℕ → List ℕ → ℕ → Release → Tile
tile_at n ds e bs q r =
    record {
      entry = n;
      place = e;
      pixel_type = pixel_type ds e;
      position = q;
      pyramid = pyramid_byte ds e;
      dimensions = dimension_count ds e;
      x = extent_at ds (letter_place ds e 88);
      y = extent_at ds (letter_place ds e 89);
      m = m_index_of ds e;
      layers = layers_of ds e;
      metadata = metadata_span ds e bs q;
      pixels = pixels_span ds e bs q;
      attachment = attachment_span ds e bs q;
      mask = mask_of ds e bs q r;
    }

-- of entry n of a scan
unfoldable pub tile_record : Scan → ℕ → Tile
tile_record sc n = tile_at n sc.file (tile_entry sc n) (tile_file sc n) (tile_position sc n) sc.release

-- ---- the dimension record

unfoldable pub dimension_at : List ℕ → ℕ → Dimension
dimension_at bs d =
    record {
      letter = letter bs d;
      start = signed32 (start bs d);
      size = size bs d;
      coordinate = of_bits binary32 (coordinate_bits bs d);
      coordinate_bits = coordinate_bits bs d;
      stored = stored bs d;
    }

-- 24 where there is no such entry, or no such dimension of it
unfoldable pub dimension_verdict : Scan → ℕ → ℕ → Verdict
dimension_verdict sc n k =
    first
    (checks sc ++
    (row Fault.NoSuchNumber 0 (leb (tile_count sc.file) n) ∷
    row Fault.NoSuchNumber 0 (leb (dimension_count sc.file (tile_entry sc n)) k) ∷
    []))

-- of dimension k of entry n
unfoldable pub dimension_record : Scan → ℕ → ℕ → Dimension
dimension_record sc n k = dimension_at sc.file (dimension_place (tile_entry sc n) k)

-- ---- the attachment record

-- the data of the attachment at q, from 256
unfoldable pub attachment_data_span : List ℕ → ℕ → Span
attachment_data_span bs q = span (q + 288) (attachment_data_size bs q)

-- of the entry at e
unfoldable pub attachment_at : List ℕ → ℕ → Attachment
attachment_at bs e = record { place = e; position = attachment_position bs e; «data» = attachment_data_span bs (attachment_position bs e) }

-- of attachment n of a scan
unfoldable pub attachment_record : Scan → ℕ → Attachment
attachment_record sc n = attachment_at sc.file (attachment_entry (attachment_directory_position sc.file) n)

-- ---- the stretches of the views: the empty one where refused

unfoldable pub tile_pixels : Scan → ℕ → Span
tile_pixels sc n = span_if (tile_verdict sc n) (pixels_span sc.file (tile_entry sc n) (tile_file sc n) (tile_position sc n))

unfoldable pub tile_metadata : Scan → ℕ → Span
tile_metadata sc n = span_if (tile_verdict sc n) (metadata_span sc.file (tile_entry sc n) (tile_file sc n) (tile_position sc n))

unfoldable pub tile_attachment : Scan → ℕ → Span
tile_attachment sc n = span_if (tile_verdict sc n) (attachment_span sc.file (tile_entry sc n) (tile_file sc n) (tile_position sc n))

unfoldable pub attachment_data : Scan → ℕ → Span
attachment_data sc n =
    span_if (attachment_verdict sc n)
    (attachment_data_span sc.file (attachment_position sc.file (attachment_entry (attachment_directory_position sc.file) n)))

-- the common XML and its attachment: empty, and not refused, without a metadata segment
unfoldable pub xml_span : List ℕ → ℕ → Span
xml_span bs m = cond (eqb m 0) (span 0 0) (span (m + 288) (xml_size bs m))

unfoldable pub xml_attachment_span : List ℕ → ℕ → Span
xml_attachment_span bs m = cond (eqb m 0) (span 0 0) (span (m + 288 + xml_size bs m) (xml_attachment_size bs m))

unfoldable pub common_xml : Scan → Span
common_xml sc = span_if (verdict sc) (xml_span sc.file (metadata_position sc.file))

unfoldable pub common_attachment : Scan → Span
common_attachment sc = span_if (verdict sc) (xml_attachment_span sc.file (metadata_position sc.file))
