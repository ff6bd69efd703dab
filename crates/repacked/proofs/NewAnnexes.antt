-- The metadata segment, the attachment directory and the attachments of the new file are well formed where those of the old one are. Assumes nothing.
use Prim.Native.Nat.{ℕ, ◌+◌, ◌*◌, ◌^◌, ◌≤◌, ◌<◌}
use mathlib.Core.Path.{◌≡◌, sym, ◌∙◌}
use mathlib.Core.Logic.{◌⊎◌, inl, inr, ⊎_elim}
use mathlib.Core.List.{List}
use mathlib.Core.Bool.{false, not}
use native.Mathlib.Omega.{arith}
use lib.ListN.{length, get_or}
use lib.Dec.{eqb}
use borrow.Author.Tests.{le-ltb, ne_eqb, eqb-true, eqb-false}
use Rattle.format.specs.Bytes.{same_range}
use Rattle.format.specs.Names.{name_metadata, name_attachment, name_attachment_directory, mark_attachment}
use Rattle.format.specs.Segments.{room, walked}
use Rattle.format.specs.File.{metadata_position, attachment_directory_position}
use Rattle.format.specs.Attachments.{xml_size, xml_attachment_size, metadata_bad, attachment_entry_count, attachment_entry, attachment_directory_bad, attachment_count}
use Rattle.format.specs.Attachments.{attachment_part, attachment_entry_bad, attachment_data_size, attachment_bad, attachment_data_bad}
use Rattle.format.specs.WellFormed.{Names, AttachmentEntry, AttachmentDirectory}
use Rattle.format.proofs.Below.{by_bool, none, any-alike}
use Rattle.format.proofs.Flags.{any-skip, any_none}
use Rattle.equivalent.specs.Same.{Same, SameMetadata, SameAttachmentEntry, SameAttachment, SameAttachments, attachment_entry_of}
use Rattle.equivalent.proofs.Reading.{same_byte, same-is-range, name-front, u32-inside}
use Rattle.equivalent.proofs.Annexes.{xml-size-same, xml-attachment-size-same, content-size-same, entry-count-same}
use Rattle.pack.proofs.Tiling.{Tiles}
use Rattle.repacked.specs.Contents.{moved_attachment_entry}
use Rattle.repacked.specs.NewFile.{entry_attachment, metadata_content_size, attachment_directory_size, attachment_content_size}
use Rattle.repacked.specs.NewFile.{new_metadata, new_attachment_directory, new_attachment, new_attachment_entry}
use Rattle.repacked.specs.NewFile.{metadata_segment, attachment_directory_segment, attachment_segment, new_segments, repacked}
use Rattle.repacked.proofs.Lengths.{Kept, attachment-entry-length, metadata-content, attachments-content, attachment-content}
use Rattle.repacked.proofs.Places.{metadata-placed, attachments-placed, attachment-placed}
use Rattle.repacked.proofs.Listed.{placed-names, placed-room}
use Rattle.repacked.proofs.Reading.{tiles-short, metadata-read, attachment-entry-stands, attachment-entry-read, attachment-read}
use Rattle.repacked.proofs.Sameness.{metadata-named, metadata-at, attachments-named, attachments-at, all-counted, attachments-same}

-- ---- the metadata segment

metadata-right : {ds : List ℕ} {m : ℕ} {fs : List ℕ} {p : ℕ} → SameMetadata ds m fs p → 256 + (xml_size ds m + xml_attachment_size ds m) ≤ room fs p
    → metadata_bad ds m ≡ false → metadata_bad fs p ≡ false
unfolding metadata_bad
metadata-right {ds} {m} {fs} {p} s r c =
    let fits = le-ltb (room fs p) (256 + xml_size ds m + xml_attachment_size ds m) (omega arith) in
    rw (← xml-size-same s, ← xml-attachment-size-same s)
    (sym (any-skip false _ _ (none _ c 0) (any-skip false _ _ (none _ c 1) (any-skip false _ _ fits any_none))))

-- ---- an entry of the attachment directory

entry-bad-same : {ds : List ℕ} {e : ℕ} {fs : List ℕ} {f : ℕ} → SameAttachmentEntry ds e fs f → attachment_entry_bad ds e ≡ attachment_entry_bad fs f
unfolding attachment_entry_bad mark_attachment
entry-bad-same {ds} {e} {fs} {f} s =
    let mark = name-front 2 ds e fs f s.mark mark_attachment (omega arith) in
    let byte : (i : ℕ) → i < 80 → get_or ds (e + 48 + i) 0 ≡ get_or fs (f + 48 + i) 0 =
    λ i l. let a : e + 48 + i ≡ e + 20 + (28 + i) = omega arith in let b : f + 48 + i ≡ f + 20 + (28 + i) = omega arith in
    rw (a, b) (same_byte 108 ds (e + 20) fs (f + 20) s.rest (28 + i) (omega arith)) in
    rw (mark, any-alike 80 (λ i. eqb (get_or ds (e + 48 + i) 0) 0) (λ i. eqb (get_or fs (f + 48 + i) 0) 0) (λ i l. rw (byte i l)))

entry-part-same : {ds : List ℕ} {e : ℕ} {fs : List ℕ} {f : ℕ} → SameAttachmentEntry ds e fs f → attachment_part ds e ≡ attachment_part fs f
unfolding attachment_part
entry-part-same {ds} {e} {fs} {f} s = u32-inside 108 ds (e + 20) fs (f + 20) s.rest 0 (e + 20) (f + 20) (omega arith) (omega arith) (omega arith)

-- ---- an attachment, in a room that holds it

attachment-right : (fs : List ℕ) (f p : ℕ) → 256 ≤ room fs p → Same 128 fs f fs (p + 48) → attachment_bad fs f fs p ≡ false
unfolding attachment_bad
attachment-right fs f p r s =
    let copy : not (same_range 128 fs f fs (p + 48)) ≡ false = rw (same-is-range 128 fs f fs (p + 48) s) in
    sym (any-skip false _ _ (le-ltb (room fs p) 256 r) (any-skip false _ _ copy any_none))

data-right : {ds : List ℕ} {q : ℕ} {fs : List ℕ} {p : ℕ} → SameAttachment ds q fs p → 256 + attachment_data_size ds q ≤ room fs p
    → attachment_data_bad ds q ≡ false → attachment_data_bad fs p ≡ false
unfolding attachment_data_bad
data-right {ds} {q} {fs} {p} s r c =
    rw (← content-size-same s)
    (sym (any-skip false _ _ (none _ c 0) (any-skip false _ _ (le-ltb (room fs p) (256 + attachment_data_size ds q) r) any_none)))

-- ---- the attachment directory

directory-right : {ds : List ℕ} {t : ℕ} {fs : List ℕ} {u : ℕ} → SameAttachments ds t fs u
    → 256 + 128 * attachment_entry_count ds t ≤ room fs u → attachment_directory_bad ds t ≡ false → attachment_directory_bad fs u ≡ false
unfolding attachment_directory_bad
directory-right {ds} {t} {fs} {u} s r c =
    let fixed = le-ltb (room fs u) 256 (omega arith) in
    let fits = le-ltb (room fs u) (256 + 128 * attachment_entry_count ds t) r in
    rw (← entry-count-same s)
    (sym (any-skip false _ _ fixed (any-skip false _ _ (none _ c 1) (any-skip false _ _ (none _ c 2) (any-skip false _ _ fits any_none)))))

-- ---- of the new file

-- what a well-formed file fs with those segments has
abbrev pub Described : List ℕ → List ℕ → Type 0
Described segments fs = (metadata_position fs ≡ 0) ⊎ (Names fs segments (metadata_position fs) name_metadata × (metadata_bad fs (metadata_position fs) ≡ false))

abbrev pub Attached : List ℕ → List ℕ → Type 0
Attached segments fs = (attachment_directory_position fs ≡ 0) ⊎ AttachmentDirectory fs segments (attachment_directory_position fs)

module _ (bs : List ℕ) (h : Kept bs) (t : Tiles (new_segments bs)) where
  abbrev nf : List ℕ
  nf = repacked bs

  short : length nf ≤ 2 ^ 40
  short = tiles-short bs t

  module _ (some : metadata_position bs ≡ 0 → ⊥) where
    metadata-names : Names nf (walked nf) (new_metadata bs) name_metadata
    unfolding metadata_segment
    metadata-names = placed-names bs t (metadata_segment bs) (new_metadata bs) (metadata-placed bs h some)

    metadata-room : room nf (new_metadata bs) ≡ 256 + (xml_size bs (metadata_position bs) + xml_attachment_size bs (metadata_position bs))
    unfolding metadata_content_size
    metadata-room = placed-room bs t (metadata_segment bs) (new_metadata bs) (metadata-placed bs h some) ∙ metadata-content bs h some

  pub metadata-too : (segments : List ℕ) → Described segments bs → Described (walked nf) nf
  metadata-too segments old =
      by_bool (eqb (metadata_position bs) 0)
      (λ z. inl (eqb-true (metadata_position nf) 0 (sym (metadata-named bs h short) ∙ z)))
      (λ z.
      let some = eqb-false (metadata_position bs) 0 z in
      let right = ⊎_elim (λ e. absurd (some e)) (λ x. metadata-right (metadata-read bs h short some) (omega (arith, metadata-room some)) x.1) old in
      inr (rw (metadata-at bs h short some) (metadata-names some, right)))

  -- ---- attachment k: its entry is at f, and it is at p

  module _ (k : ℕ) (l : k < attachment_count bs) where
    abbrev f : ℕ
    f = attachment_entry (new_attachment_directory bs) k

    abbrev p : ℕ
    p = new_attachment bs k

    attachment-names : Names nf (walked nf) p name_attachment
    unfolding attachment_segment
    attachment-names = placed-names bs t (attachment_segment bs k) p (attachment-placed bs h k l)

    attachment-room : room nf p ≡ 256 + attachment_data_size bs (entry_attachment bs k)
    unfolding attachment_content_size
    attachment-room = placed-room bs t (attachment_segment bs k) p (attachment-placed bs h k l) ∙ attachment-content bs h k l

    -- the directory's entry and the attachment's copy are the same bytes
    copy-same : Same 128 nf f nf (p + 48)
    unfolding new_attachment_entry
    copy-same =
        let x = moved_attachment_entry bs (attachment_entry_of bs k) p in
        let n : length x ≡ 128 = attachment-entry-length bs (attachment_entry_of bs k) p (h.attachment-entry k l) in
        rw (← n) (attachment-entry-stands bs h short k l ∙ sym (attachment-read bs h short k l).copy)

    entry-too : (segments : List ℕ) → AttachmentEntry bs segments (attachment_entry_of bs k) → AttachmentEntry nf (walked nf) f
    entry-too segments w =
        let e = attachment-entry-read bs h short k l in
        let a = attachment-read bs h short k l in
        let room = attachment-room in
        record {
          entry = sym (entry-bad-same e.same) ∙ w.entry;
          part = sym (entry-part-same e.same) ∙ w.part;
          names = rw e.position attachment-names;
          attachment = rw e.position (attachment-right nf f p (omega arith) copy-same);
          contents = rw e.position (data-right a.same (omega arith) w.contents);
        }

  -- ---- the attachment directory

  module _ (some : attachment_directory_position bs ≡ 0 → ⊥) where
    attachments-names : Names nf (walked nf) (new_attachment_directory bs) name_attachment_directory
    unfolding attachment_directory_segment
    attachments-names = placed-names bs t (attachment_directory_segment bs) (new_attachment_directory bs) (attachments-placed bs h some)

    attachments-room : room nf (new_attachment_directory bs) ≡ 256 + 128 * attachment_entry_count bs (attachment_directory_position bs)
    unfolding attachment_directory_size attachment_count
    attachments-room =
        rw (ne_eqb (attachment_directory_position bs) 0 some)
        at (placed-room bs t (attachment_directory_segment bs) (new_attachment_directory bs) (attachments-placed bs h some) ∙ attachments-content bs h some)

    directory-too : (segments : List ℕ) → AttachmentDirectory bs segments (attachment_directory_position bs)
        → AttachmentDirectory nf (walked nf) (attachment_directory_position nf)
    directory-too segments w =
        let room = attachments-room in
        let same = attachments-same bs h short some in
        let at = attachments-at bs h short some in
        let count = entry-count-same same in
        record {
          names = rw at attachments-names;
          directory = directory-right same (rw at (omega arith)) w.directory;
          entries = λ k l. let m : k < attachment_entry_count bs (attachment_directory_position bs) = omega arith in
              rw at (entry-too k (all-counted bs h short some k m) segments (w.entries k m));
        }

  pub attachments-too : (segments : List ℕ) → Attached segments bs → Attached (walked nf) nf
  attachments-too segments old =
      by_bool (eqb (attachment_directory_position bs) 0)
      (λ z. inl (eqb-true (attachment_directory_position nf) 0 (sym (attachments-named bs h short) ∙ z)))
      (λ z.
      let some = eqb-false (attachment_directory_position bs) 0 z in
      inr (⊎_elim (λ e. absurd (some e)) (directory-too some segments) old))
