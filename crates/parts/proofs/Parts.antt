-- The answers for the parts of tile n, whose entry is at e and whose sub-block is at q, for its dimension k, which is at d, and for an attachment.
-- Assumes nothing.
use Prim.Native.Nat.{ℕ, ◌+◌, ◌≤◌}
use mathlib.Core.Path.{◌≡◌, refl, ap}
use mathlib.Core.List.{List}
use lib.ListN.{length}
use Rattle.std.specs.Prelude.{Result, Ok, Err}
use Rattle.format.specs.Scan.{Scan, scan_of, block_file}
use Rattle.format.specs.Entry.{dimension_place, file_position}
use Rattle.format.specs.Rules.{tile_verdict, attachment_verdict}
use Rattle.format.specs.Records.{span_if, tile_entry, tile_at, tile_record, metadata_span, pixels_span, attachment_span, tile_pixels, tile_metadata, tile_attachment}
use Rattle.format.specs.Attachments.{attachment_data_size}
use Rattle.format.specs.Records.{span, dimension_verdict, dimension_at, dimension_record, attachment_data_span, attachment_at, attachment_record}
use Rattle.format.specs.Answers.{VerdictAnswered, ValueAnswered, SpanAnswered, TileAnswered, DimensionAnswered, AttachmentAnswered}
use Rattle.format.specs.declared.Release.{Release}
use Rattle.format.specs.Checks.{Verdict, Accepted}
use Rattle.format.specs.declared.Refusal.{Refusal}
use Rattle.format.specs.declared.Span.{Span}
use Rattle.format.specs.declared.Tile.{Tile}
use Rattle.format.specs.declared.Dimension.{Dimension}
use Rattle.format.specs.declared.Attachment.{Attachment}
use Rattle.format.proofs.Firsts.{by-verdict}
use Rattle.format.proofs.Answering.{verdict-answered, span-refused, span-found, value-found}
use Rattle.parts.proofs.Numbered.{annex_entry, annex_position, annex-there, annex-in}

module _ (sc : Scan) (n e q : ℕ) {v : Verdict} (a : VerdictAnswered (tile_verdict sc n) v) (h : v ≡ Accepted) (i : e ≡ tile_entry sc n)
    (j : q ≡ file_position sc.file e) where
  pub record-found : {r : Tile} → r ≡ tile_at n sc.file e (block_file sc e) q sc.release → TileAnswered (tile_verdict sc n) (tile_record sc n) (Ok r)
  unfolding tile_record
  record-found k = value-found a h (rw (← i, ← j) k)

  pub pixels-found : {r : Span} → r ≡ pixels_span sc.file e (block_file sc e) q → SpanAnswered (tile_verdict sc n) (tile_pixels sc n) (Ok r)
  unfolding tile_pixels
  pixels-found k = span-found a h (rw (← i, ← j) k)

  pub metadata-found : {r : Span} → r ≡ metadata_span sc.file e (block_file sc e) q → SpanAnswered (tile_verdict sc n) (tile_metadata sc n) (Ok r)
  unfolding tile_metadata
  metadata-found k = span-found a h (rw (← i, ← j) k)

  pub attachment-found : {r : Span} → r ≡ attachment_span sc.file e (block_file sc e) q
      → SpanAnswered (tile_verdict sc n) (tile_attachment sc n) (Ok r)
  unfolding tile_attachment
  attachment-found k = span-found a h (rw (← i, ← j) k)

module _ (sc : Scan) (n k : ℕ) {v : Verdict} (a : VerdictAnswered (dimension_verdict sc n k) v) (e d : ℕ) (h : v ≡ Accepted) (i : e ≡ tile_entry sc n)
    (j : d ≡ dimension_place e k) where
  pub dimension-record-found : {r : Dimension} → r ≡ dimension_at sc.file d
      → DimensionAnswered (dimension_verdict sc n k) (dimension_record sc n k) (Ok r)
  unfolding dimension_record
  dimension-record-found f = value-found a h (rw (← i, ← j) f)

-- attachment n: its entry is at e, itself at q, and it has l bytes of data
module _ (sc : Scan) (n : ℕ) {v : Verdict} (a : VerdictAnswered (attachment_verdict sc n) v) (e q : ℕ) (h : v ≡ Accepted) where
  pub annex-found : (l : ℕ) → e ≡ annex_entry sc.file n → q ≡ annex_position sc.file n → l ≡ attachment_data_size sc.file q
      → AttachmentAnswered (attachment_verdict sc n) (attachment_record sc n) (Ok (record { place = e; position = q; «data» = span (q + 288) l }))
  unfolding attachment_record attachment_at attachment_data_span
  annex-found l i j f = value-found a h (rw (f, j, i))

-- a record x that was asked for, by the verdict w, and the answer r: a part of it
module _ {A : Type 0} {none x : A} {w : Verdict} {r : Result A Refusal} (a : ValueAnswered none w x r) where
  found-is : {y : A} → r ≡ Ok y → (w ≡ Accepted) × (y ≡ x)
  found-is h = by-verdict w (λ e. (e, cc (a.answer_is, h, e))) (λ p e. absurd (cc (a.answer_is, h, e)))

  refused-is : {e : Refusal} → r ≡ Err e → w ≡ Err e
  refused-is h = by-verdict w (λ e. absurd (cc (a.answer_is, h, e))) (λ p e. cc (a.answer_is, h, e))

  pub part-found : (part : A → Span) {y : A} → r ≡ Ok y → SpanAnswered w (span_if w (part x)) (Ok (part y))
  part-found part h = let f = found-is h in span-found (verdict-answered refl) f.0 (ap part f.1)

  pub part-refused : (s : Span) {e : Refusal} → r ≡ Err e → SpanAnswered w (span_if w s) (Err e)
  part-refused s h = span-refused (verdict-answered refl) s (refused-is h)

-- its entry lies in the lent file bs
pub found_in : (bs : List ℕ) (r : Release) (n : ℕ) {u : Attachment} {a : Result Attachment Refusal}
    → AttachmentAnswered (attachment_verdict (scan_of bs r) n) (attachment_record (scan_of bs r) n) a → a ≡ Ok u → u.place + 128 ≤ length bs
unfolding attachment_record attachment_at
found_in bs r n h e = let f = found-is h e in let t = annex-there bs r n f.0 in annex-in bs t.0 n t.1 _ (rw f.1)
