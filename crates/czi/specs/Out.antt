-- What each kind of function for C gives: the number that it returns, what stands behind its out-pointers in the end, and in lent arrays.
use Rattle.std.specs.Prelude.{ℕ, ◌-◌, ◌≡◌, List, ◌++◌, length, replicate, ℤ, is_some, unwrap_or}
use Rattle.std.specs.Int.{from_bool}
use Rattle.format.specs.Checks.{Verdict, number_of, place_of, if_accepted}
use Rattle.format.specs.Attachments.{attachment_guid, attachment_type, attachment_name}
use Rattle.format.specs.Answers.{no_dimension, no_attachment}
use Rattle.format.specs.declared.Span.{Span}
use Rattle.format.specs.declared.Tile.{Tile}
use Rattle.format.specs.declared.Dimension.{Dimension}
use Rattle.format.specs.declared.Attachment.{Attachment}
use Rattle.listing.specs.Summary.{no_summary}
use Rattle.listing.specs.declared.Summary.{Summary}
use Rattle.tables.specs.Numbers.{tile_numbers, tile_starts}
use Rattle.czi.specs.Numbers.{no_box}

-- the interface's number: it rises with every changed signature or array length
abbrev pub interface_number : ℕ
interface_number = 3

-- a verdict: the refusal's number and place, 0 and 0 where there is none
pub record VerdictOut (v : Verdict) (number place : ℕ) : Type 0 where
  pub number_is : number ≡ number_of v
  pub place_is : place ≡ place_of v

-- the part s of the file: whoever cites this names the empty one at 0 where v refuses
pub record SpanOut (v : Verdict) (s : Span) (number place start length : ℕ) : Type 0 where
  pub number_is : number ≡ number_of v
  pub place_is : place ≡ place_of v
  pub start_is : start ≡ s.start
  pub length_is : length ≡ s.length

-- a tile record in two arrays, which held numbers₀ and starts₀ and still do where v refuses
pub record TileOut (v : Verdict) (t : Tile) (numbers₀ : List ℕ) (starts₀ : List ℤ) (number place : ℕ) (numbers : List ℕ) (starts : List ℤ) : Type 0 where
  pub number_is : number ≡ number_of v
  pub place_is : place ≡ place_of v
  pub numbers-are : numbers ≡ if_accepted v (tile_numbers t) numbers₀
  pub starts-are : starts ≡ if_accepted v (tile_starts t) starts₀

-- all records of a kind, `rows` of them, by the verdict v: how many were filled, 0 where it refuses
pub record TableOut (v : Verdict) (rows number place count : ℕ) : Type 0 where
  pub number_is : number ≡ number_of v
  pub place_is : place ≡ place_of v
  pub count-is : count ≡ if_accepted v rows 0

-- a dimension record, all zero where v refuses
pub record DimensionOut (v : Verdict) (d : Dimension) (number place letter : ℕ) (start : ℤ) (size bits stored : ℕ) : Type 0 where
  pub number_is : number ≡ number_of v
  pub place_is : place ≡ place_of v
  pub letter-is : letter ≡ (if_accepted v d no_dimension).letter
  pub start_is : start ≡ (if_accepted v d no_dimension).start
  pub size_is : size ≡ (if_accepted v d no_dimension).size
  pub bits_are : bits ≡ (if_accepted v d no_dimension).coordinate_bits
  pub stored_is : stored ≡ (if_accepted v d no_dimension).stored

-- an attachment record of the file bs: three arrays, which stay where v refuses, and the stretch of the data, 0 and 0 there
pub record AttachmentOut (v : Verdict) (bs : List ℕ) (a : Attachment) (guid₀ type₀ name₀ guid type name : List ℕ) (number place start length : ℕ) : Type 0 where
  pub number_is : number ≡ number_of v
  pub place_is : place ≡ place_of v
  pub guid_is : guid ≡ if_accepted v (attachment_guid bs a.place) guid₀
  pub type_is : type ≡ if_accepted v (attachment_type bs a.place) type₀
  pub name_is : name ≡ if_accepted v (attachment_name bs a.place) name₀
  pub start_is : start ≡ (if_accepted v a no_attachment).«data».start
  pub length_is : length ≡ (if_accepted v a no_attachment).«data».length

-- a summary, all zero where v refuses
pub record SummaryOut (v : Verdict) (s : Summary) (number place bytes segments tiles attachments box : ℕ) (left top right bottom : ℤ) : Type 0 where
  pub number_is : number ≡ number_of v
  pub place_is : place ≡ place_of v
  pub bytes_are : bytes ≡ (if_accepted v s no_summary).bytes
  pub segments-are : segments ≡ (if_accepted v s no_summary).segments
  pub tiles_are : tiles ≡ (if_accepted v s no_summary).tiles
  pub attachments_are : attachments ≡ (if_accepted v s no_summary).attachments
  pub box-is : box ≡ from_bool (is_some (if_accepted v s no_summary).bounds)
  pub left_is : left ≡ (unwrap_or (if_accepted v s no_summary).bounds no_box).left
  pub top-is : top ≡ (unwrap_or (if_accepted v s no_summary).bounds no_box).top
  pub right_is : right ≡ (unwrap_or (if_accepted v s no_summary).bounds no_box).right
  pub bottom-is : bottom ≡ (unwrap_or (if_accepted v s no_summary).bounds no_box).bottom

-- a text, in 192 bytes, which are 0 behind it
pub record TextOut (l : List ℕ) (count : ℕ) (text : List ℕ) : Type 0 where
  pub count-is : count ≡ length l
  pub text_is : text ≡ l ++ replicate (192 - length l) 0
