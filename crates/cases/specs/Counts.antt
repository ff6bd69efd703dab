-- Small cases of the tiles that a question selects and that meet a window: each answer is the right one.
use Rattle.std.specs.Prelude.{ℕ, refl, List, [], ◌∷◌, false, length, ℤ, pos, negsuc}
use Rattle.std.proofs.Math.Option.{Option-elim}
use Rattle.format.specs.Bytes.{any_of, any_below, all_below, least_below, u32_at, u64_at, biased, same_at, same_range, part_of}
use Rattle.format.specs.Names.{name_file, name_directory, name_sub_block, name_metadata, name_attachment, name_attachment_directory, name_deleted, mark_tile}
use Rattle.format.specs.Checks.{Verdict, Accepted, Refused, rows_below, if_accepted}
use Rattle.format.specs.Segments.{allocated_size, used_size, room, next_segment, length_bad, name_bad, allocated_bad, used_bad, end_bad, sizes_bad, role_bad, segment_rows, walk_rows, walked_from, walked, segments_rows, member, walked_as}
use Rattle.format.specs.File.{major, file_part, directory_position, metadata_position, update_pending, attachment_directory_position, names_none, names_none_but0, file_rows}
use Rattle.format.specs.Entry.{pixel_type, file_position, entry_part, compression, dimension_count, letter, start, size, stored_field, stored, next_entry, head_bad, letter_bad, too_far, is_plane, most_size, plane_size_bad, other_size_bad, size_bad, dimension_bad, has_letter, repeats, closes_plane, has_layers, layers_bad, dimensions_bad, letter_index, letter_place, is_layered, layers_index, layers_place, layer_count, pixel_bytes, is_pyramid}
use Rattle.format.specs.SubBlock.{metadata_size, attachment_size, data_size, fixed_part, copy_bad, sub_block_bad, layer_size, pixels_size, contents_bad, metadata_place, pixels_place, attachment_place}
use Rattle.format.specs.Choice.{asked_start}
use Rattle.format.specs.Markup.{or_none, read_from, reads_as}
use Rattle.format.specs.Container.{ends_well, declares, is_container}
use Rattle.format.specs.Masks.{has_chunks}
use Rattle.format.specs.Directory.{entry_count, room_end, tile_count, entry_place, directory_bad, head_rows, tile_rows, sub_block_rows, attachment_rows, entry_rows, directory_rows}
use Rattle.format.specs.Attachments.{metadata_rows, attachments_rows}
use Rattle.format.specs.Rules.{checks}
use Rattle.format.specs.declared.Release.TheVariants.{R12}
use Rattle.plane.specs.Sums.{sum, tab}
use Rattle.selection.specs.Select.{tile_start, free, start_count, has_start, selects}
use Rattle.tiles.specs.FileTile.{rectangle, meets}
use Rattle.counting.specs.Chosen.{sought, shares, selects_at, meets_at, mark_at, counts_below, counts_of, marks_below, marks_of, chosen_verdict, no_counts}
use Rattle.counting.specs.declared.ChosenCounts.{ChosenCounts}
use Rattle.cases.specs.Cases.{little, segment, file_segment, dimension_of, entry_of, block_of, wide8, file_wide, file_two}
use Rattle.format.specs.declared.Fault.TheVariants as Fault
use Rattle.cases.specs.Right.{AllRight}

-- a question: a file, the starts, a window of that left, width and height whose top is 0, and the marks that are lent
pub record Question : Type 0 where
  pub file : List ℕ
  pub starts : List ℤ
  pub left : ℤ
  pub width : ℕ
  pub height : ℕ
  pub lent : List ℕ

abbrev pub ask : List ℕ → List ℤ → ℤ → ℕ → ℕ → List ℕ → Question
ask file starts left width height lent = record { file = file; starts = starts; left = left; width = width; height = height; lent = lent }

-- what is right: the verdict, how many are selected and how many of those meet the window, and the marks in the end
pub record Answer : Type 0 where
  pub verdict-is : Verdict
  pub counts : ChosenCounts
  pub marks : List ℕ

abbrev pub gives : Verdict → ℕ → ℕ → List ℕ → Answer
gives v selected meeting marks = record { verdict-is = v; counts = record { selected = selected; meeting = meeting }; marks = marks }

abbrev pub answer : Question → Answer
answer a =
    let q = sought a.file R12 a.starts false a.left (pos 0) a.width a.height in
    let v = chosen_verdict q (length a.lent) in
    record { verdict-is = v; counts = if_accepted v (counts_of q) no_counts; marks = if_accepted v (marks_of q a.lent) a.lent }

pub record Case : Type 0 where
  pub question : Question
  pub right : Answer

abbrev pub case : Question → Answer → Case
case q a = record { question = q; right = a }

-- two tiles of one pixel at (0, 0): the first with C (67) at 0, the second with C at 1
unfoldable pub two_channels : List ℕ
two_channels = file_two 3 (dimension_of 67 0 1) 3 (dimension_of 67 1 1)

abbrev pub cases : List Case
cases =
    -- the tile of columns −4 to 3 and a window of columns −2 to 1; what is past the tile's mark stays
    case (ask file_wide [] (negsuc 1) 4 1 (7 ∷ 8 ∷ [])) (gives Accepted 1 1 (2 ∷ 8 ∷ [])) ∷
    -- the last column of the window is the tile's first, and the one before it
    case (ask file_wide [] (negsuc 4) 2 1 (7 ∷ [])) (gives Accepted 1 1 (2 ∷ [])) ∷
    case (ask file_wide [] (negsuc 4) 1 1 (7 ∷ [])) (gives Accepted 1 0 (1 ∷ [])) ∷
    -- the first column of the window is the tile's last, and the one behind it
    case (ask file_wide [] (pos 3) 1 1 (7 ∷ [])) (gives Accepted 1 1 (2 ∷ [])) ∷
    case (ask file_wide [] (pos 4) 1 1 (7 ∷ [])) (gives Accepted 1 0 (1 ∷ [])) ∷
    -- a window within the tile without a column, and one without a row
    case (ask file_wide [] (pos 0) 0 1 (7 ∷ [])) (gives Accepted 1 0 (1 ∷ [])) ∷
    case (ask file_wide [] (pos 0) 1 0 (7 ∷ [])) (gives Accepted 1 0 (1 ∷ [])) ∷
    -- of two channels the one that is asked for: 0 unless given
    case (ask two_channels [] (pos 0) 1 1 (7 ∷ 7 ∷ [])) (gives Accepted 1 1 (2 ∷ 0 ∷ [])) ∷
    case (ask two_channels (pos 0 ∷ pos 0 ∷ pos 1 ∷ []) (pos 0) 1 1 (7 ∷ 7 ∷ 7 ∷ [])) (gives Accepted 1 1 (0 ∷ 2 ∷ 7 ∷ [])) ∷
    -- fewer marks than tiles: 22, and the marks stay
    case (ask two_channels [] (pos 0) 1 1 (7 ∷ [])) (gives (Refused Fault.LentTooShort 0) 0 0 (7 ∷ [])) ∷
    -- the file's own refusal stands before it
    case (ask [] [] (pos 0) 1 1 (7 ∷ [])) (gives (Refused Fault.Length 0) 0 0 (7 ∷ [])) ∷
    []

pub all_right : AllRight (λ (c : Case). answer c.question) (λ (c : Case). c.right) cases
unfolding little segment file_segment dimension_of entry_of block_of wide8 file_wide file_two two_channels sum tab shares selects_at meets_at mark_at counts_below marks_below chosen_verdict asked_start tile_start free start_count has_start selects rectangle meets is_pyramid any_of any_below all_below least_below u32_at u64_at biased same_at same_range name_file name_directory name_sub_block name_metadata name_attachment name_attachment_directory name_deleted mark_tile rows_below allocated_size used_size room next_segment length_bad name_bad allocated_bad used_bad end_bad sizes_bad role_bad segment_rows walk_rows walked_from walked segments_rows member walked_as major file_part directory_position metadata_position update_pending attachment_directory_position names_none names_none_but0 file_rows pixel_type file_position entry_part compression dimension_count letter start size stored_field stored next_entry head_bad letter_bad too_far is_plane most_size plane_size_bad other_size_bad size_bad dimension_bad has_letter repeats closes_plane has_layers layers_bad dimensions_bad letter_index letter_place is_layered layers_index layers_place layer_count pixel_bytes metadata_size attachment_size data_size fixed_part copy_bad sub_block_bad layer_size pixels_size contents_bad metadata_place pixels_place attachment_place part_of Option-elim or_none read_from reads_as ends_well declares is_container has_chunks entry_count room_end tile_count entry_place directory_bad head_rows tile_rows sub_block_rows attachment_rows entry_rows directory_rows metadata_rows attachments_rows checks
all_right = refl
