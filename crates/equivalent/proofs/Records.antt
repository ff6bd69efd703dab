-- Two scans that say the same: as many tiles and attachments, the same refusals of their numbers, the same records but for places, the same parts byte for
-- byte. Assumes nothing.
use Prim.Native.Nat.{ℕ, ◌+◌, ◌<◌}
use mathlib.Core.Path.{◌≡◌, refl, sym, ◌∙◌}
use mathlib.Core.List.{List, [], ◌∷◌, ◌++◌}
use mathlib.Core.Bool.{false}
use native.Mathlib.Omega.{arith}
use lib.Dec.{eqb, leb}
use borrow.Author.Tests.{eqb-false, leb-false}
use Rattle.format.specs.Bytes.{part_of}
use Rattle.format.specs.Scan.{Scan}
use Rattle.std.specs.Prelude.{Ok, Err}
use Rattle.format.specs.Checks.{Verdict, Accepted, Check, row, first}
use Rattle.format.specs.File.{directory_position, metadata_position, attachment_directory_position}
use Rattle.format.specs.Entry.{dimension_count, dimension_place, letter_place}
use Rattle.format.specs.Directory.{entry_count, tile_count}
use Rattle.format.specs.Attachments.{attachment_entry_count, attachment_count, attachment_entry, attachment_position}
use Rattle.format.specs.Rules.{checks, verdict, tile_verdict, attachment_verdict}
use Rattle.format.specs.Records.{tile_entry, tile_file, tile_position, span_if, metadata_span, pixels_span, attachment_span, tile_at, tile_record}
use Rattle.format.specs.Records.{dimension_verdict, dimension_record, attachment_data_span, attachment_at, attachment_record}
use Rattle.format.specs.Records.{tile_pixels, tile_metadata, tile_attachment, attachment_data, xml_span, xml_attachment_span, common_xml, common_attachment}
use Rattle.format.specs.declared.Span.{Span}
use Rattle.format.proofs.Below.{by_bool}
use Rattle.format.proofs.Firsts.{first-pass, first-passed}
use Rattle.subblocks.specs.Judged.{Judged}
use Rattle.judge.proofs.AcceptedFile.{tiled}
use Rattle.equivalent.specs.Same.{SameMetadata, SameAttachmentEntry, SameAttachment, SameScans}
use Rattle.equivalent.specs.Claims.{SameTile, SameListed, bytes_at}
use Rattle.equivalent.proofs.Reading.{u32-inside}
use Rattle.equivalent.proofs.Entries.{dimension-same, extent-same, type-same, pyramid-byte-same, count_same, place_same, m-same, layers-same, x-same, y-same}
use Rattle.equivalent.proofs.Blocks.{metadata-size-same, attachment-size-same, data-size-same, metadata-same, pixels-same, attachment-same}
use Rattle.equivalent.proofs.Chunks.{mask-same}
use Rattle.equivalent.proofs.Annexes.{xml-size-same, xml-attachment-size-same, xml-same, xml-attachment-same}
use Rattle.equivalent.proofs.Annexes.{guid-same, file-type-same, name-same, content-size-same, entry-count-same}
use Rattle.format.specs.declared.Fault.TheVariants as Fault

-- rows behind those of an accepted scan decide
behind : (sc : Scan) → verdict sc ≡ Accepted → (rows : List Check) → first (checks sc ++ rows) ≡ first rows
unfolding verdict
behind sc h rows = first-pass (checks sc) rows h

-- a number that is not refused as 24
not-24 : (count n : ℕ) → first (row Fault.NoSuchNumber 0 (leb count n) ∷ []) ≡ Accepted → n < count
not-24 count n h = leb-false count n (first-passed (leb count n) _ Accepted h).0

-- parts that a verdict allows: the same where it accepts, and empty where it refuses
spans-same : (a b : Scan) (v : Verdict) (x y : Span) → (v ≡ Accepted → bytes_at a x ≡ bytes_at b y) → bytes_at a (span_if v x) ≡ bytes_at b (span_if v y)
unfolding part_of
spans-same a b (Ok _) x y h = h refl
spans-same a b (Err e) x y h = refl

module _ (a b : Scan) (s : SameScans a b) where
  -- ---- tiles

  pub tiles-same : tile_count a.file ≡ tile_count b.file
  unfolding tile_count entry_count
  tiles-same =
      u32-inside 4 a.file (directory_position a.file + 32) b.file (directory_position b.file + 32) s.count 0
      (directory_position a.file + 32) (directory_position b.file + 32) (omega arith) (omega arith) (omega arith)

  pub tile-verdict-same : (n : ℕ) → tile_verdict a n ≡ tile_verdict b n
  unfolding tile_verdict
  tile-verdict-same n = behind a s.accepted _ ∙ sym (behind b s.accepted-too _ ∙ rw (← tiles-same))

  tile-there : (n : ℕ) → tile_verdict a n ≡ Accepted → n < tile_count a.file
  unfolding tile_verdict
  tile-there n h = not-24 (tile_count a.file) n (sym (behind a s.accepted _) ∙ h)

  pub dimension-verdict-same : (n k : ℕ) → dimension_verdict a n k ≡ dimension_verdict b n k
  unfolding dimension_verdict
  dimension-verdict-same n k =
      behind a s.accepted _ ∙ (rows ∙ sym (behind b s.accepted-too _))
    where
      rows : first (row Fault.NoSuchNumber 0 (leb (tile_count a.file) n) ∷ row Fault.NoSuchNumber 0 (leb (dimension_count a.file (tile_entry a n)) k) ∷ [])
          ≡ first (row Fault.NoSuchNumber 0 (leb (tile_count b.file) n) ∷ row Fault.NoSuchNumber 0 (leb (dimension_count b.file (tile_entry b n)) k) ∷ [])
      rows =
          rw (← tiles-same)
          (by_bool (leb (tile_count a.file) n) (λ h. rw h)
          (λ h. rw (h, count_same (s.entry n (leb-false (tile_count a.file) n h)))))

  module _ (n : ℕ) (l : n < tile_count a.file) where
    judged : Judged a.file (tile_entry a n) (tile_file a n) (tile_position a n) a.release
    judged = (tiled a s.accepted).tile n l

    pub tile-same : SameTile (tile_record a n) (tile_record b n)
    unfolding tile_record tile_at metadata_span pixels_span attachment_span
    tile-same =
        let e = s.entry n l in
        let q = s.block n l in
        let d = judged.filled.agreed.placed.listed.dimensions in
        record {
          entry = refl;
          pixel_type = type-same e;
          pyramid = pyramid-byte-same e;
          dimensions = count_same e;
          x = extent-same a.file (letter_place a.file (tile_entry a n) 88) b.file (letter_place b.file (tile_entry b n) 88) (x-same e d);
          y = extent-same a.file (letter_place a.file (tile_entry a n) 89) b.file (letter_place b.file (tile_entry b n) 89) (y-same e d);
          m = m-same e;
          layers = layers-same e;
          metadata = metadata-size-same q;
          pixels = data-size-same q;
          attachment = attachment-size-same q;
          mask = rw (← s.release) (mask-same q judged).within;
        }

    pub dimension-record-same : (k : ℕ) → k < dimension_count a.file (tile_entry a n) → dimension_record a n k ≡ dimension_record b n k
    unfolding dimension_record
    dimension-record-same k h =
        dimension-same a.file (dimension_place (tile_entry a n) k) b.file (dimension_place (tile_entry b n) k) (place_same (s.entry n l) k h)

  -- ---- their parts

  module _ (n : ℕ) where
    tile-part : (x y : Span) → (n < tile_count a.file → bytes_at a x ≡ bytes_at b y) → bytes_at a (span_if (tile_verdict a n) x) ≡ bytes_at b (span_if (tile_verdict b n) y)
    tile-part x y h = rw (← tile-verdict-same n) (spans-same a b (tile_verdict a n) x y (λ e. h (tile-there n e)))

    pub tile-pixels-same : bytes_at a (tile_pixels a n) ≡ bytes_at b (tile_pixels b n)
    unfolding tile_pixels pixels_span
    tile-pixels-same = tile-part _ _ (λ l. let q = s.block n l in rw (← data-size-same q) (pixels-same q))

    pub tile-metadata-same : bytes_at a (tile_metadata a n) ≡ bytes_at b (tile_metadata b n)
    unfolding tile_metadata metadata_span
    tile-metadata-same = tile-part _ _ (λ l. let q = s.block n l in rw (← metadata-size-same q) (metadata-same q))

    pub tile-attachment-same : bytes_at a (tile_attachment a n) ≡ bytes_at b (tile_attachment b n)
    unfolding tile_attachment attachment_span
    tile-attachment-same = tile-part _ _ (λ l. let q = s.block n l in rw (← attachment-size-same q) (attachment-same q))

  -- ---- attachments: the directory is at t of the one scan and at u of the other

  abbrev t : ℕ
  t = attachment_directory_position a.file

  abbrev u : ℕ
  u = attachment_directory_position b.file

  pub attachments-same : attachment_count a.file ≡ attachment_count b.file
  unfolding attachment_count
  attachments-same =
      rw (← s.attachments-named) (by_bool (eqb t 0) (λ h. rw h) (λ h. rw h (entry-count-same (s.attachments (eqb-false t 0 h)))))

  pub attachment-verdict-same : (n : ℕ) → attachment_verdict a n ≡ attachment_verdict b n
  unfolding attachment_verdict
  attachment-verdict-same n = behind a s.accepted _ ∙ sym (behind b s.accepted-too _ ∙ rw (← attachments-same))

  attachment-there : (n : ℕ) → attachment_verdict a n ≡ Accepted → n < attachment_count a.file
  unfolding attachment_verdict
  attachment-there n h = not-24 (attachment_count a.file) n (sym (behind a s.accepted _) ∙ h)

  -- where there are some, there is a directory
  some-named : (n : ℕ) → n < attachment_count a.file → (t ≡ 0 → ⊥) × (n < attachment_entry_count a.file t)
  unfolding attachment_count
  some-named n l =
      by_bool (eqb t 0) (λ h. let z : n < 0 = rw h at l in absurd (omega arith)) (λ h. (eqb-false t 0 h, rw h at l))

  module _ (n : ℕ) (l : n < attachment_count a.file) where
    listed_at : SameAttachmentEntry a.file (attachment_entry t n) b.file (attachment_entry u n)
    listed_at = let h = some-named n l in (s.attachments h.0).entry n h.1

    attached-at : SameAttachment a.file (attachment_position a.file (attachment_entry t n)) b.file (attachment_position b.file (attachment_entry u n))
    attached-at = let h = some-named n l in (s.attachments h.0).attachment n h.1

    pub listed_same : SameListed a b n
    unfolding attachment_record attachment_at attachment_data_span
    listed_same =
        record { guid = guid-same listed_at; type = file-type-same listed_at; name = name-same listed_at; size = content-size-same attached-at }

  pub attached-same : (n : ℕ) → bytes_at a (attachment_data a n) ≡ bytes_at b (attachment_data b n)
  unfolding attachment_data attachment_data_span
  attached-same n =
      rw (← attachment-verdict-same n)
      (spans-same a b (attachment_verdict a n) _ _
      (λ h. let q = attached-at n (attachment-there n h) in rw (← content-size-same q) q.content))

  -- ---- the metadata segment

  abbrev m : ℕ
  m = metadata_position a.file

  metadata-at : eqb m 0 ≡ false → SameMetadata a.file m b.file (metadata_position b.file)
  metadata-at h = s.metadata (eqb-false m 0 h)

  pub common-xml-same : bytes_at a (common_xml a) ≡ bytes_at b (common_xml b)
  unfolding common_xml xml_span part_of
  common-xml-same =
      rw (s.accepted, s.accepted-too, ← s.metadata-named)
      (by_bool (eqb m 0) (λ h. rw h) (λ h. rw (h, ← xml-size-same (metadata-at h)) (xml-same (metadata-at h))))

  pub common-attachment-same : bytes_at a (common_attachment a) ≡ bytes_at b (common_attachment b)
  unfolding common_attachment xml_attachment_span part_of
  common-attachment-same =
      rw (s.accepted, s.accepted-too, ← s.metadata-named)
      (by_bool (eqb m 0) (λ h. rw h) (λ h. rw (h, ← xml-attachment-size-same (metadata-at h)) (xml-attachment-same (metadata-at h))))
