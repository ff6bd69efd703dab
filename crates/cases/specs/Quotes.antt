-- Worked cases of a quote (paper 02, Req 09), each a list under one claim: which settings texts say what, what a sheet says, and whole quotes of P8's tile.
use Rattle.std.specs.Prelude.{ℕ, ◌≡◌, refl, List, [], ◌∷◌, ◌++◌, false, cond, Result, Ok, Err, replicate, eqb, pos}
use Rattle.std.proofs.Math.Option.{Option-elim}
use Rattle.format.specs.Scan.{scan_of}
use Rattle.format.specs.Bytes.{any_of, any_below, all_below, least_below, u32_at, u64_at, biased, same_at, same_range, part_of}
use Rattle.format.specs.Names.{name_file, name_directory, name_sub_block, name_metadata, name_attachment, name_attachment_directory, name_deleted, mark_tile, tag_metadata, tag_schema, tag_format, text_container, mask_guid}
use Rattle.format.specs.Checks.{Refused, refusal, answer_if, rows_below}
use Rattle.format.specs.Segments.{allocated_size, used_size, room, next_segment, length_bad, name_bad, allocated_bad, used_bad, end_bad, sizes_bad, role_bad, segment_rows, walk_rows, walked_from, walked, segments_rows, member, walked_as}
use Rattle.format.specs.File.{major, file_part, directory_position, metadata_position, update_pending, attachment_directory_position, names_none, names_none_but0, file_rows}
use Rattle.format.specs.Entry.{pixel_type, file_position, entry_part, compression, dimension_count, letter, start, size, stored_field, stored, next_entry, head_bad, letter_bad, too_far, is_plane, most_size, plane_size_bad, other_size_bad, size_bad, dimension_bad, has_letter, repeats, closes_plane, has_layers, layers_bad, dimensions_bad, letter_index, letter_place, is_layered, layers_index, layers_place, layer_count, pixel_bytes}
use Rattle.format.specs.SubBlock.{metadata_size, attachment_size, data_size, fixed_part, copy_bad, sub_block_bad, layer_size, pixels_size, contents_bad, metadata_place, pixels_place, layer_pixels_place, attachment_place}
use Rattle.format.specs.Choice.{asked_start, asked_layer}
use Rattle.format.specs.Markup.{white, name_byte, text_byte, quote, begins_name, opener, closer, front, behind, begins, behind_first, quote_after, behind_tag}
use Rattle.format.specs.Markup.{tag_at, closed, end_tag_at, skip_at, mark_at, item_at, or_none, one_more, read_from, reads_as}
use Rattle.format.specs.Container.{same_bytes, in_section, start_stage, text_stage, ends_well, declares, is_container}
use Rattle.format.specs.Masks.{has_chunks, chunk_size, next_chunk, chunk_bad, is_mask, mask_bad, mask_refused, mask_width, mask_height, mask_stride, representation, chunk_rows, chunks_rows, mask_byte, mask_valid}
use Rattle.format.specs.Directory.{entry_count, room_end, tile_count, entry_place, directory_bad, head_rows, tile_rows, sub_block_rows, attachment_rows, entry_rows, directory_rows}
use Rattle.format.specs.Attachments.{metadata_rows, attachments_rows}
use Rattle.format.specs.Rules.{checks, verdict}
use Rattle.format.specs.declared.Release.TheVariants.{R12}
use Rattle.format.specs.Entry.{is_pyramid}
use Rattle.format.specs.Records.{mask_of}
use Rattle.format.specs.Masks.{mask_from, mask_shape}
use Rattle.plane.specs.Sums.{sum, tab}
use Rattle.plane.specs.Paint.{bit_in, bit, pack, paint, mark, clear}
use Rattle.plane.specs.Turns.{Kind, plain, quick, turn, run, below, insert, bottom_first}
use Rattle.plane.specs.Turns as Turns
use Rattle.plane.specs.Tiles.{covers}
use Rattle.selection.specs.Select.{tile_start, free, start_count, has_start, selects}
use Rattle.tiles.specs.FileTile.{rank_of, rectangle, meets, entry_tile, file_tile, tiles_below}
use Rattle.question.specs.Question.{window_bad, pixel_bad, lent_bad, ask_rows, type_bad, agree_rows}
use Rattle.question.specs.Call.{call_verdict, selected, target_after, map_after}
use Rattle.text.specs.Text.{digits, decimal, line}
use Rattle.question.specs.Call.{lending_verdict, answer}
use Rattle.question.specs.declared.Masks.{Masks}
use Rattle.question.specs.declared.Masks.TheVariants.{NotChosen, On, Off}
use Rattle.settings.specs.Settings.{digit, digits_value, fraction_of, nanometres, name_edition, name_pitch_x, name_pitch_y, name_masks, masks_line}
use Rattle.settings.specs.Reading.{is_point, decimals_at, behind_decimals, decimals_bad, spelling_at, behind_pitch, pitch_at, spelling_bad, pitch_bad}
use Rattle.settings.specs.Reading.{edition_bad, edition_at, pitch_line_bad, behind_pitch_line, masks_bad, masks_at}
use Rattle.settings.specs.Reading.{second_line, third_line, last_line, settings_bad, settings_in}
use Rattle.settings.specs.Answers.{comma_place, settings_rows, settings_verdict}
use Rattle.settings.specs.declared.Edition.{Edition}
use Rattle.settings.specs.declared.Edition.TheVariants.{First, Second}
use Rattle.settings.specs.declared.Settings.{Settings}
use Rattle.markup.specs.Stretches.{other_than}
use Rattle.quote.specs.declared.Figures.{Figures}
use Rattle.quote.specs.Quote.{QuoteAsked, figures, sheet_bad, quote_verdict, name_covered, name_area, area_of, sheet_text, overlaid, count_of, sheet_for, quoted, quote_target, quote_map, quote_sheet}
use Rattle.cases.specs.Written.{bytes}
use Rattle.cases.specs.Cases.{little, segment, file_segment, element, container_section, mask1, dimension_of, entry_of, masked5, file_masked}
use Rattle.format.specs.declared.Fault.{Fault}
use Rattle.format.specs.declared.Refusal.{Refusal}
use Rattle.cases.specs.Right.{AllRight}

-- ---- settings

-- a text, and what reading it answers
pub record Case : Type 0 where
  pub text : List ℕ
  pub right : Result Settings Refusal

abbrev pub case : List ℕ → Result Settings Refusal → Case
case text right = record { text = text; right = right }

-- edition 1 without a masks line, with that pitch_x and a pitch_y of 1 micrometre
abbrev pub pitched : List ℕ → List ℕ
pitched x = bytes "edition=1\npitch_x=" ++ (x ++ bytes "\npitch_y=1\n")

abbrev pub says : Edition → ℕ → ℕ → Masks → Result Settings Refusal
says e x y m = Ok (record { edition = e; pitch_x = x; pitch_y = y; masks = m })

abbrev pub comes : ℕ → Result Settings Refusal
comes n = says First n 1000 NotChosen

abbrev pub fault : Result Settings Refusal
fault = Err (refusal Fault.Settings 0)

abbrev pub cases : List Case
cases =
    -- every line, and the masks line lacking
    case (bytes "edition=2\npitch_x=0.325\npitch_y=65.535\nmasks=on\n") (says Second 325 65535 On) ∷
    case (bytes "edition=1\npitch_x=12\npitch_y=00001.5\nmasks=off\n") (says First 12000 1500 Off) ∷
    case (bytes "edition=2\npitch_x=0.5\npitch_y=1.250\n") (says Second 500 1250 NotChosen) ∷
    case (bytes "edition=1\npitch_x=40\npitch_y=23.468\nmasks=off\n") (says First 40000 23468 Off) ∷
    -- spellings of a pitch
    case (pitched (bytes "00065.535")) (comes 65535) ∷
    case (pitched (bytes "0.001")) (comes 1) ∷
    case (pitched (bytes "1.05")) (comes 1050) ∷
    case (pitched (bytes "9.87")) (comes 9870) ∷
    case (pitched (bytes "65.536")) fault ∷
    case (pitched (bytes "0.000")) fault ∷
    case (pitched (bytes "0")) fault ∷
    case (pitched (bytes "")) fault ∷
    case (pitched (bytes "000001")) fault ∷
    case (pitched (bytes "1.")) fault ∷
    case (pitched (bytes ".5")) fault ∷
    case (pitched (bytes "1.0000")) fault ∷
    case (pitched (bytes "1 ")) fault ∷
    case (pitched (bytes "1e1")) fault ∷
    case (pitched (bytes "-1")) fault ∷
    case (pitched (bytes "+1")) fault ∷
    -- the bytes next to the digits
    case (pitched (bytes "3/")) fault ∷
    case (pitched (bytes "3:")) fault ∷
    -- a comma in the last line, behind a fault in the first, at 37; one at 0; one behind the settings
    case (bytes "edition=3\npitch_x=1\npitch_y=1\nmasks=o,n\n") (Err (refusal Fault.Comma 37)) ∷
    case (bytes ",") (Err (refusal Fault.Comma 0)) ∷
    case (bytes "edition=1\npitch_x=1\npitch_y=1\n,,") (Err (refusal Fault.Comma 30)) ∷
    -- nothing; an edition that is none; lines that lack, stand in another order, or are more
    case (bytes "") fault ∷
    case (bytes "edition=3\npitch_x=1\npitch_y=1\n") fault ∷
    case (bytes "edition=1\npitch_y=1\n") fault ∷
    case (bytes "pitch_x=1\npitch_y=1\n") fault ∷
    case (bytes "edition=1\n\npitch_x=1\npitch_y=1\n") fault ∷
    -- faults of the second pitch
    case (bytes "edition=1\npitch_x=1\npitch_y=65.536\n") fault ∷
    case (bytes "edition=1\npitch_x=1\npitch_y=1.\n") fault ∷
    case (bytes "edition=1\npitch_y=1\npitch_x=1\n") fault ∷
    case (bytes "edition=1\npitch_x=1\npitch_y=1") fault ∷
    case (bytes "edition=1\r\npitch_x=1\r\npitch_y=1\r\n") fault ∷
    case (bytes "edition=1\npitch_x=1\npitch_y=1\nmasks=yes\n") fault ∷
    case (bytes "edition=1\npitch_x=1\npitch_y=1\nmasks=on\n\n") fault ∷
    []

pub all_right : AllRight (λ (c : Case). answer_if (settings_verdict c.text) (settings_in c.text)) (λ (c : Case). c.right) cases
unfolding settings_verdict settings_rows comma_place settings_in settings_bad last_line third_line second_line masks_at masks_bad behind_pitch_line pitch_line_bad edition_at edition_bad pitch_bad spelling_bad pitch_at behind_pitch spelling_at decimals_bad behind_decimals decimals_at is_point digit digits_value fraction_of nanometres name_edition name_pitch_x name_pitch_y name_masks masks_line line other_than any_of front behind begins same_bytes
all_right = refl

-- ---- the sheet's text, at its longest and at its shortest

-- the covered count, both pitches in nanometres, and the text
pub record Sheet : Type 0 where
  pub count : ℕ
  pub pitch : ℕ
  pub text-right : List ℕ

abbrev pub sheet : ℕ → ℕ → List ℕ → Sheet
sheet count pitch text = record { count = count; pitch = pitch; text-right = text }

abbrev pub sheets : List Sheet
sheets =
    -- 49 bytes
    sheet 4294967296 65535 (bytes "covered=4294967296\narea_nm2=18446181128051097600\n") ∷
    sheet 0 1 (bytes "covered=0\narea_nm2=0\n") ∷
    []

pub all_said : AllRight (λ (c : Sheet). sheet_text (record { edition = First; pitch_x = c.pitch; pitch_y = c.pitch; masks = NotChosen }) c.count) (λ (c : Sheet). c.text-right) sheets
unfolding sheet_text name_covered name_area area_of decimal digits line
all_said = refl

-- ---- whole quotes of P8's tile, five pixels wide with a mask of three, and of no file

-- a background of one pixel
abbrev pub background_for : ℕ → List ℕ
background_for type = cond (eqb type 1) (1 ∷ 1 ∷ []) (1 ∷ [])

abbrev pub asked : List ℕ → List ℕ → ℕ → ℕ → ℕ → QuoteAsked
asked file settings type left width = record {
  scan = scan_of file R12;
  starts = [];
  any_scene = false;
  request = record { pixel_type = type; left = pos left; top = pos 0; width = width; height = 1 };
  background = background_for type;
  settings = settings;
}

abbrev pub p8 : List ℕ
p8 = file_masked (mask1 3 1 (0xff ∷ []))

-- the composer inside, and what is asked of P8's tile: a window of a left and a width in columns; the count, and the sheet's two lines. The sheet has 49 bytes
-- of 7, and the lines 27
pub record Quote : Type 0 where
  pub inside : Kind
  pub sought : QuoteAsked
  pub count : ℕ
  pub lines : List ℕ

abbrev pub quoting : Kind → List ℕ → ℕ → ℕ → ℕ → List ℕ → Quote
quoting k settings left width count lines = record { inside = k; sought = asked p8 settings 0 left width; count = count; lines = lines }

-- what is answered, and what the sheet holds in the end; and what is right
abbrev pub told : Quote → Result Figures Refusal × List ℕ
told c = (quoted c.inside c.sought (replicate 5 0) (0 ∷ []) (replicate 49 7), quote_sheet c.inside c.sought (replicate 5 0) (0 ∷ []) (replicate 49 7))

abbrev pub right : Quote → Result Figures Refusal × List ℕ
right c = (Ok (figures c.count 27), c.lines ++ replicate 22 7)

abbrev pub quotes : List Quote
quotes =
    -- edition 1 without a masks line: masks off, 5 pixels of 500 by 1,250 nm
    quoting quick (bytes "edition=1\npitch_x=0.5\npitch_y=1.250\n") 0 5 5 (bytes "covered=5\narea_nm2=3125000\n") ∷
    -- edition 2: masks on, here with the plain composer inside
    quoting plain (bytes "edition=2\npitch_x=0.5\npitch_y=1.250\n") 0 5 3 (bytes "covered=3\narea_nm2=1875000\n") ∷
    -- the line decides in either edition
    quoting quick (bytes "edition=1\npitch_x=0.5\npitch_y=1.250\nmasks=on\n") 0 5 3 (bytes "covered=3\narea_nm2=1875000\n") ∷
    quoting quick (bytes "edition=2\npitch_x=0.5\npitch_y=1.250\nmasks=off\n") 0 5 5 (bytes "covered=5\narea_nm2=3125000\n") ∷
    -- the halves of a cut window: 2 and 3 columns
    quoting quick (bytes "edition=1\npitch_x=0.5\npitch_y=1.250\n") 0 2 2 (bytes "covered=2\narea_nm2=1250000\n") ∷
    quoting quick (bytes "edition=1\npitch_x=0.5\npitch_y=1.250\n") 2 3 3 (bytes "covered=3\narea_nm2=1875000\n") ∷
    []

pub all_quoted : AllRight told right quotes
unfolding little segment file_segment element container_section mask1 dimension_of entry_of masked5 file_masked sum tab bit_in bit pack paint mark clear turn run Turns.start below insert bottom_first asked_start asked_layer tile_start free start_count has_start selects rank_of rectangle covers meets entry_tile file_tile tiles_below window_bad pixel_bad lent_bad ask_rows type_bad agree_rows call_verdict selected target_after map_after is_pyramid mask_of mask_from mask_shape any_of any_below all_below least_below u32_at u64_at biased same_at same_range name_file name_directory name_sub_block name_metadata name_attachment name_attachment_directory name_deleted mark_tile tag_metadata tag_schema tag_format text_container mask_guid rows_below allocated_size used_size room next_segment length_bad name_bad allocated_bad used_bad end_bad sizes_bad role_bad segment_rows walk_rows walked_from walked segments_rows member walked_as major file_part directory_position metadata_position update_pending attachment_directory_position names_none names_none_but0 file_rows pixel_type file_position entry_part compression dimension_count letter start size stored_field stored next_entry head_bad letter_bad too_far is_plane most_size plane_size_bad other_size_bad size_bad dimension_bad has_letter repeats closes_plane has_layers layers_bad dimensions_bad letter_index letter_place is_layered layers_index layers_place layer_count pixel_bytes metadata_size attachment_size data_size fixed_part copy_bad sub_block_bad layer_size pixels_size contents_bad metadata_place pixels_place layer_pixels_place attachment_place white name_byte text_byte quote begins_name opener closer front behind begins behind_first quote_after behind_tag tag_at closed end_tag_at skip_at mark_at item_at or_none one_more read_from reads_as same_bytes in_section start_stage text_stage ends_well declares part_of Option-elim is_container has_chunks chunk_size next_chunk chunk_bad is_mask mask_bad mask_refused mask_width mask_height mask_stride representation chunk_rows chunks_rows mask_byte mask_valid entry_count room_end tile_count entry_place directory_bad head_rows tile_rows sub_block_rows attachment_rows entry_rows directory_rows metadata_rows attachments_rows checks verdict lending_verdict answer digits decimal sheet_bad quote_verdict name_covered name_area area_of sheet_text overlaid count_of sheet_for quoted quote_target quote_map quote_sheet settings_verdict settings_rows comma_place settings_in settings_bad last_line third_line second_line masks_at masks_bad behind_pitch_line pitch_line_bad edition_at edition_bad pitch_bad spelling_bad pitch_at behind_pitch spelling_at decimals_bad behind_decimals decimals_at is_point digit digits_value fraction_of nanometres name_edition name_pitch_x name_pitch_y name_masks masks_line line other_than
all_quoted = refl

-- target and map in the end: all five pixels, and the three that the mask leaves
pub all_left : (quote_target quick (asked p8 (bytes "edition=1\npitch_x=0.5\npitch_y=1.250\n") 0 0 5) (replicate 5 0) (0 ∷ []) (replicate 49 7) ≡ 10 ∷ 11 ∷ 12 ∷ 13 ∷ 14 ∷ [])
    × (quote_map quick (asked p8 (bytes "edition=1\npitch_x=0.5\npitch_y=1.250\n") 0 0 5) (replicate 5 0) (0 ∷ []) (replicate 49 7) ≡ 0xf8 ∷ [])
    × (quote_target quick (asked p8 (bytes "edition=2\npitch_x=0.5\npitch_y=1.250\n") 0 0 5) (replicate 5 0) (0 ∷ []) (replicate 49 7) ≡ 10 ∷ 11 ∷ 12 ∷ 1 ∷ 1 ∷ [])
    × (quote_map quick (asked p8 (bytes "edition=2\npitch_x=0.5\npitch_y=1.250\n") 0 0 5) (replicate 5 0) (0 ∷ []) (replicate 49 7) ≡ 0xe0 ∷ [])
unfolding little segment file_segment element container_section mask1 dimension_of entry_of masked5 file_masked sum tab bit_in bit pack paint mark clear turn run Turns.start below insert bottom_first asked_start asked_layer tile_start free start_count has_start selects rank_of rectangle covers meets entry_tile file_tile tiles_below window_bad pixel_bad lent_bad ask_rows type_bad agree_rows call_verdict selected target_after map_after is_pyramid mask_of mask_from mask_shape any_of any_below all_below least_below u32_at u64_at biased same_at same_range name_file name_directory name_sub_block name_metadata name_attachment name_attachment_directory name_deleted mark_tile tag_metadata tag_schema tag_format text_container mask_guid rows_below allocated_size used_size room next_segment length_bad name_bad allocated_bad used_bad end_bad sizes_bad role_bad segment_rows walk_rows walked_from walked segments_rows member walked_as major file_part directory_position metadata_position update_pending attachment_directory_position names_none names_none_but0 file_rows pixel_type file_position entry_part compression dimension_count letter start size stored_field stored next_entry head_bad letter_bad too_far is_plane most_size plane_size_bad other_size_bad size_bad dimension_bad has_letter repeats closes_plane has_layers layers_bad dimensions_bad letter_index letter_place is_layered layers_index layers_place layer_count pixel_bytes metadata_size attachment_size data_size fixed_part copy_bad sub_block_bad layer_size pixels_size contents_bad metadata_place pixels_place layer_pixels_place attachment_place white name_byte text_byte quote begins_name opener closer front behind begins behind_first quote_after behind_tag tag_at closed end_tag_at skip_at mark_at item_at or_none one_more read_from reads_as same_bytes in_section start_stage text_stage ends_well declares part_of Option-elim is_container has_chunks chunk_size next_chunk chunk_bad is_mask mask_bad mask_refused mask_width mask_height mask_stride representation chunk_rows chunks_rows mask_byte mask_valid entry_count room_end tile_count entry_place directory_bad head_rows tile_rows sub_block_rows attachment_rows entry_rows directory_rows metadata_rows attachments_rows checks verdict lending_verdict answer digits decimal sheet_bad quote_verdict name_covered name_area area_of sheet_text overlaid count_of sheet_for quoted quote_target quote_map quote_sheet settings_verdict settings_rows comma_place settings_in settings_bad last_line third_line second_line masks_at masks_bad behind_pitch_line pitch_line_bad edition_at edition_bad pitch_bad spelling_bad pitch_at behind_pitch spelling_at decimals_bad behind_decimals decimals_at is_point digit digits_value fraction_of nanometres name_edition name_pitch_x name_pitch_y name_masks masks_line line other_than
all_left = (refl, refl, refl, refl)

-- ---- refusals in their order

-- what is asked, how many bytes of target and of sheet are lent, and the refusal
pub record RefusedQuote : Type 0 where
  pub sought : QuoteAsked
  pub target : ℕ
  pub room : ℕ
  pub fault : Fault
  pub place : ℕ

abbrev pub refusing : QuoteAsked → ℕ → ℕ → Fault → ℕ → RefusedQuote
refusing q target room f place = record { sought = q; target = target; room = room; fault = f; place = place }

abbrev pub refusals : List RefusedQuote
refusals =
    -- a sheet of 48 bytes: 22, however short the text
    refusing (asked p8 (bytes "edition=1\npitch_x=0.5\npitch_y=1.250\n") 0 0 5) 5 48 Fault.LentTooShort 0 ∷
    -- 20 and 21 before it
    refusing (asked p8 (bytes "edition=1\npitch_x=0.5\npitch_y=1.250\n") 0 0 0) 5 48 Fault.Window 0 ∷
    refusing (asked p8 (bytes "edition=1\npitch_x=0.5\npitch_y=1.250\n") 99 0 5) 5 48 Fault.AskedPixel 0 ∷
    -- and it before 23, of the entry at 288, whose tile is of another type
    refusing (asked p8 (bytes "edition=1\npitch_x=0.5\npitch_y=1.250\n") 1 0 5) 10 48 Fault.LentTooShort 0 ∷
    refusing (asked p8 (bytes "edition=1\npitch_x=0.5\npitch_y=1.250\n") 1 0 5) 10 49 Fault.TileType 288 ∷
    -- a target that is too short
    refusing (asked p8 (bytes "edition=1\npitch_x=0.5\npitch_y=1.250\n") 0 0 5) 4 49 Fault.LentTooShort 0 ∷
    -- settings before the file and before the sheet, and a refused file before the sheet
    refusing (asked [] (bytes "edition=1\npitch_x=0,5\npitch_y=1.250\n") 0 0 5) 5 48 Fault.Comma 19 ∷
    refusing (asked [] (bytes "edition=1\npitch_x=0.5\n") 0 0 5) 5 48 Fault.Settings 0 ∷
    refusing (asked [] (bytes "edition=1\npitch_x=0.5\npitch_y=1.250\n") 0 0 5) 5 48 Fault.Length 0 ∷
    []

pub all_refused : AllRight (λ (c : RefusedQuote). quote_verdict c.sought c.target 1 c.room) (λ (c : RefusedQuote). Refused c.fault c.place) refusals
unfolding little segment file_segment element container_section mask1 dimension_of entry_of masked5 file_masked sum tab bit_in bit pack paint mark clear turn run Turns.start below insert bottom_first asked_start asked_layer tile_start free start_count has_start selects rank_of rectangle covers meets entry_tile file_tile tiles_below window_bad pixel_bad lent_bad ask_rows type_bad agree_rows call_verdict selected target_after map_after is_pyramid mask_of mask_from mask_shape any_of any_below all_below least_below u32_at u64_at biased same_at same_range name_file name_directory name_sub_block name_metadata name_attachment name_attachment_directory name_deleted mark_tile tag_metadata tag_schema tag_format text_container mask_guid rows_below allocated_size used_size room next_segment length_bad name_bad allocated_bad used_bad end_bad sizes_bad role_bad segment_rows walk_rows walked_from walked segments_rows member walked_as major file_part directory_position metadata_position update_pending attachment_directory_position names_none names_none_but0 file_rows pixel_type file_position entry_part compression dimension_count letter start size stored_field stored next_entry head_bad letter_bad too_far is_plane most_size plane_size_bad other_size_bad size_bad dimension_bad has_letter repeats closes_plane has_layers layers_bad dimensions_bad letter_index letter_place is_layered layers_index layers_place layer_count pixel_bytes metadata_size attachment_size data_size fixed_part copy_bad sub_block_bad layer_size pixels_size contents_bad metadata_place pixels_place layer_pixels_place attachment_place white name_byte text_byte quote begins_name opener closer front behind begins behind_first quote_after behind_tag tag_at closed end_tag_at skip_at mark_at item_at or_none one_more read_from reads_as same_bytes in_section start_stage text_stage ends_well declares part_of Option-elim is_container has_chunks chunk_size next_chunk chunk_bad is_mask mask_bad mask_refused mask_width mask_height mask_stride representation chunk_rows chunks_rows mask_byte mask_valid entry_count room_end tile_count entry_place directory_bad head_rows tile_rows sub_block_rows attachment_rows entry_rows directory_rows metadata_rows attachments_rows checks verdict lending_verdict answer digits decimal sheet_bad quote_verdict name_covered name_area area_of sheet_text overlaid count_of sheet_for quoted quote_target quote_map quote_sheet settings_verdict settings_rows comma_place settings_in settings_bad last_line third_line second_line masks_at masks_bad behind_pitch_line pitch_line_bad edition_at edition_bad pitch_bad spelling_bad pitch_at behind_pitch spelling_at decimals_bad behind_decimals decimals_at is_point digit digits_value fraction_of nanometres name_edition name_pitch_x name_pitch_y name_masks masks_line line other_than
all_refused = refl
