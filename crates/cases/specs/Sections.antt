-- Worked cases of a sub-block's metadata (paper 02, Req 01), one list under one claim: which declare a chunk container.
use Rattle.std.specs.Prelude.{ℕ, zero, suc, refl, List, [], ◌∷◌, ◌++◌, Bool, true, false, length}
use Rattle.std.proofs.Math.Option.{Option-elim}
use Rattle.format.specs.Bytes.{any_of, part_of}
use Rattle.format.specs.Names.{tag_metadata, tag_schema, tag_format, text_container}
use Rattle.format.specs.Markup.{white, name_byte, text_byte, quote, begins_name, opener, closer, front, behind, begins, behind_first, quote_after, behind_tag}
use Rattle.format.specs.Markup.{tag_at, closed, end_tag_at, skip_at, mark_at, item_at, or_none, one_more, read_from, reads_as}
use Rattle.format.specs.Container.{same_bytes, in_section, start_stage, text_stage, ends_well, declares, is_container}
use Rattle.cases.specs.Written.{bytes}
use Rattle.cases.specs.Right.{AllRight}

-- the container's section
abbrev pub section : List ℕ
section = bytes "<METADATA><AttachmentSchema><DataFormat>CHUNKCONTAINER</DataFormat></AttachmentSchema></METADATA>"

-- n elements, each in the one before, and these bytes in the innermost
abbrev pub nest : ℕ → List ℕ → List ℕ
nest zero inner = inner
nest (suc n) inner = bytes "<a>" ++ (nest n inner ++ bytes "</a>")

-- metadata, and whether they declare a container
pub record Case : Type 0 where
  pub metadata : List ℕ
  pub right : Bool

abbrev pub case : List ℕ → Bool → Case
case metadata right = record { metadata = metadata; right = right }

abbrev pub cases : List Case
cases =
    -- the section by itself
    case (bytes "<METADATA><AttachmentSchema><DataFormat>CHUNKCONTAINER</DataFormat></AttachmentSchema></METADATA>") true ∷
    -- nothing at all
    case (bytes "") false ∷
    -- the marker elsewhere: document 01's rule took it
    case (bytes "<DataFormat>CHUNKCONTAINER</DataFormat>") false ∷
    -- METADATA that is not outermost
    case (bytes "<a><METADATA><AttachmentSchema><DataFormat>CHUNKCONTAINER</DataFormat></AttachmentSchema></METADATA></a>") false ∷
    -- an element between two of the three
    case (bytes "<METADATA><a><AttachmentSchema><DataFormat>CHUNKCONTAINER</DataFormat></AttachmentSchema></a></METADATA>") false ∷
    case (bytes "<METADATA><AttachmentSchema><a><DataFormat>CHUNKCONTAINER</DataFormat></a></AttachmentSchema></METADATA>") false ∷
    -- elements, comments and text beside them
    case (bytes "t<METADATA x><?i?><AttachmentSchema>t<!--c--><a/><DataFormat>CHUNKCONTAINER</DataFormat></AttachmentSchema></METADATA ><b>t</b>") true ∷
    -- `>` in quotes
    case (bytes "<METADATA><AttachmentSchema><DataFormat x=\"a>b\">CHUNKCONTAINER</DataFormat></AttachmentSchema></METADATA>") true ∷
    -- `<` outside quotes
    case (bytes "<METADATA><AttachmentSchema><DataFormat x=a<b>CHUNKCONTAINER</DataFormat></AttachmentSchema></METADATA>") false ∷
    -- a space behind the text, a comment behind it
    case (bytes "<METADATA><AttachmentSchema><DataFormat>CHUNKCONTAINER </DataFormat></AttachmentSchema></METADATA>") false ∷
    case (bytes "<METADATA><AttachmentSchema><DataFormat>CHUNKCONTAINER<!----></DataFormat></AttachmentSchema></METADATA>") false ∷
    -- a comment whose closer would overlap its opener, and one that is closed
    case (bytes "<!--><METADATA><AttachmentSchema><DataFormat>CHUNKCONTAINER</DataFormat></AttachmentSchema></METADATA>") false ∷
    case (bytes "<!----><METADATA><AttachmentSchema><DataFormat>CHUNKCONTAINER</DataFormat></AttachmentSchema></METADATA>") true ∷
    -- faults behind a complete section: a tag left open, one that nothing opened, one that breaks off
    case (bytes "<METADATA><AttachmentSchema><DataFormat>CHUNKCONTAINER</DataFormat></AttachmentSchema></METADATA><a>") false ∷
    case (bytes "<METADATA><AttachmentSchema><DataFormat>CHUNKCONTAINER</DataFormat></AttachmentSchema></METADATA></a>") false ∷
    case (bytes "<METADATA><AttachmentSchema><DataFormat>CHUNKCONTAINER</DataFormat></AttachmentSchema></METADATA><a") false ∷
    -- an empty-element tag opens nothing
    case (bytes "<METADATA/><AttachmentSchema><DataFormat>CHUNKCONTAINER</DataFormat></AttachmentSchema>") false ∷
    -- lower case
    case (bytes "<metadata><AttachmentSchema><DataFormat>CHUNKCONTAINER</DataFormat></AttachmentSchema></metadata>") false ∷
    -- the second of two outermost METADATA
    case (bytes "<METADATA></METADATA><METADATA><AttachmentSchema><DataFormat>CHUNKCONTAINER</DataFormat></AttachmentSchema></METADATA>") true ∷
    -- 64 start tags open at once behind the section, with an empty-element tag in them; and 65
    case (section ++ nest 64 (bytes "<a/>")) true ∷
    case (section ++ nest 65 []) false ∷
    []

pub all_right : AllRight (λ (c : Case). is_container c.metadata 0 (length c.metadata)) (λ (c : Case). c.right) cases
unfolding is_container part_of Option-elim reads_as read_from or_none one_more item_at mark_at skip_at end_tag_at closed tag_at behind_tag quote_after behind_first begins behind front opener closer begins_name quote text_byte name_byte white any_of declares ends_well start_stage text_stage in_section same_bytes tag_metadata tag_schema tag_format text_container
all_right = refl
