-- Every stretch that is handed out lies in the file, whatever the file and the number. Assumes nothing.
use Prim.Native.Nat.{ℕ}
use mathlib.Core.Path.{◌≡◌, refl}
use mathlib.Core.List.{List}
use mathlib.Core.Bool.{Bool, true, false, cond}
use native.Mathlib.Omega.{arith}
use denote.Ref.{Bor}
use Rattle.std.specs.Prelude.{Result, Ok, Err}
use lib.Dec.{eqb}
use borrow.Author.Tests.{eqb-false}
use Rattle.format.specs.Scan.{Scan, scan_of}
use Rattle.format.specs.File.{metadata_position}
use Rattle.format.specs.Rules.{verdict, tile_verdict, attachment_verdict}
use Rattle.format.specs.Records.{span, span_if, tile_entry, tile_file, tile_position, metadata_span, pixels_span, attachment_span, tile_pixels, tile_metadata}
use Rattle.format.specs.Records.{tile_attachment}
use Rattle.format.specs.Records.{attachment_data_span, attachment_data, xml_span, xml_attachment_span, common_xml, common_attachment}
use Rattle.format.specs.Answers.{SpanAnswered, no_span}
use Rattle.format.specs.Views.{View}
use Rattle.format.specs.declared.Release.{Release}
use Rattle.format.specs.Checks.{Verdict, Accepted, value_in}
use Rattle.format.specs.declared.Refusal.{Refusal}
use Rattle.format.specs.declared.Span.{Span}
use Rattle.subblocks.proofs.PartLaws.{Laid, filled_in}
use Rattle.judge.proofs.AcceptedFile.{accepted-under}
use Rattle.parts.specs.Within.{Within}
use Rattle.parts.proofs.Numbered.{tile-there, annex_position, annex-there, data-in, xml-in}

pub span-within : (bs : List ℕ) (v : Verdict) (s : Span) → (v ≡ Accepted → Within bs s) → Within bs (span_if v s)
span-within bs (Ok _) s h = h refl
span-within bs (Err e) s h = omega arith

-- the stretch that an answer a for the stretch s has, and its view
module _ {v : Verdict} {s : Span} {a : Result Span Refusal} (h : SpanAnswered v s a) where
  pub answered-within : (bs : List ℕ) → Within bs s → Within bs (value_in no_span a)
  answered-within bs w = rw h.span_is w

  pub answered-view : {whole part : Bor (List ℕ)} → View whole (value_in no_span a) part → View whole s part
  answered-view w = rw (← h.span_is) w

-- the parts of tile n lie in the file that its entry names
module _ (sc : Scan) (n : ℕ) where
  laid : tile_verdict sc n ≡ Accepted → Laid sc.file (tile_entry sc n) (tile_file sc n) (tile_position sc n)
  laid h = filled_in _ _ _ _ (tile-there sc n h).judged.filled

  pub pixels-within : Within (tile_file sc n) (tile_pixels sc n)
  unfolding tile_pixels pixels_span
  pixels-within = span-within (tile_file sc n) (tile_verdict sc n) _ (λ h. (laid h).pixels)

  pub metadata-within : Within (tile_file sc n) (tile_metadata sc n)
  unfolding tile_metadata metadata_span
  metadata-within = span-within (tile_file sc n) (tile_verdict sc n) _ (λ h. (laid h).metadata)

  pub attachment-within : Within (tile_file sc n) (tile_attachment sc n)
  unfolding tile_attachment attachment_span
  attachment-within = span-within (tile_file sc n) (tile_verdict sc n) _ (λ h. (laid h).attachment)

pub data-within : (bs : List ℕ) (r : Release) (n : ℕ) → Within bs (attachment_data (scan_of bs r) n)
unfolding attachment_data attachment_data_span
data-within bs r n =
    span-within bs (attachment_verdict (scan_of bs r) n) _
    (λ h. let t = annex-there bs r n h in data-in bs t.0 n t.1 (annex_position bs n) refl)

-- a stretch that is empty where m is 0
some-within : (bs : List ℕ) (m : ℕ) (s : Span) → ((m ≡ 0 → ⊥) → Within bs s) → Within bs (cond (eqb m 0) (span 0 0) s)
some-within bs m s h = go (eqb m 0) refl
  where
    go : (b : Bool) → eqb m 0 ≡ b → Within bs (cond b (span 0 0) s)
    go true e = omega arith
    go false e = h (eqb-false m 0 e)

module _ (bs : List ℕ) (r : Release) where
  pub xml-within : Within bs (common_xml (scan_of bs r))
  unfolding common_xml xml_span
  xml-within =
      let m = metadata_position bs in
      span-within bs (verdict (scan_of bs r)) _ (λ h. some-within bs m _ (λ some. omega (arith, xml-in bs (accepted-under bs r h) m refl some)))

  pub xml-attachment-within : Within bs (common_attachment (scan_of bs r))
  unfolding common_attachment xml_attachment_span
  xml-attachment-within =
      let m = metadata_position bs in
      span-within bs (verdict (scan_of bs r)) _ (λ h. some-within bs m _ (λ some. xml-in bs (accepted-under bs r h) m refl some))
