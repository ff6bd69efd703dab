-- Two metadata segments, two entries of attachments and two attachments that are the same: what is read of them agrees. Assumes nothing.
use Prim.Native.Nat.{ℕ, ◌+◌}
use mathlib.Core.Path.{◌≡◌, refl}
use mathlib.Core.List.{List}
use native.Mathlib.Omega.{arith}
use Rattle.format.specs.Attachments.{xml_size, xml_attachment_size, attachment_entry_count, attachment_data_size, attachment_guid, attachment_type, attachment_name}
use Rattle.equivalent.specs.Same.{Same, SameMetadata, SameAttachmentEntry, SameAttachment, SameAttachments}
use Rattle.equivalent.proofs.Reading.{same-inside, u32-inside}

-- ---- the metadata segments at m of ds and at n of bs

module _ {ds : List ℕ} {m : ℕ} {bs : List ℕ} {n : ℕ} (s : SameMetadata ds m bs n) where
  pub xml-size-same : xml_size ds m ≡ xml_size bs n
  unfolding xml_size
  xml-size-same = u32-inside 8 ds (m + 32) bs (n + 32) s.sizes 0 (m + 32) (n + 32) (omega arith) (omega arith) (omega arith)

  pub xml-attachment-size-same : xml_attachment_size ds m ≡ xml_attachment_size bs n
  unfolding xml_attachment_size
  xml-attachment-size-same = u32-inside 8 ds (m + 32) bs (n + 32) s.sizes 4 (m + 36) (n + 36) (omega arith) (omega arith) (omega arith)

  pub xml-same : Same (xml_size ds m) ds (m + 288) bs (n + 288)
  xml-same =
      same-inside (xml_size ds m + xml_attachment_size ds m) ds (m + 288) bs (n + 288) s.parts 0 (xml_size ds m) (m + 288) (n + 288)
      (omega arith) (omega arith) (omega arith)

  pub xml-attachment-same : Same (xml_attachment_size ds m) ds (m + 288 + xml_size ds m) bs (n + 288 + xml_size bs n)
  xml-attachment-same =
      rw (← xml-size-same)
      (same-inside (xml_size ds m + xml_attachment_size ds m) ds (m + 288) bs (n + 288) s.parts (xml_size ds m) (xml_attachment_size ds m) _ _ refl refl
      (omega arith))

-- ---- the entries A1 at e of ds and at f of bs

module _ {ds : List ℕ} {e : ℕ} {bs : List ℕ} {f : ℕ} (s : SameAttachmentEntry ds e bs f) where
  pub guid-same : attachment_guid ds e ≡ attachment_guid bs f
  unfolding attachment_guid
  guid-same = same-inside 108 ds (e + 20) bs (f + 20) s.rest 4 16 (e + 24) (f + 24) (omega arith) (omega arith) (omega arith)

  pub file-type-same : attachment_type ds e ≡ attachment_type bs f
  unfolding attachment_type
  file-type-same = same-inside 108 ds (e + 20) bs (f + 20) s.rest 20 8 (e + 40) (f + 40) (omega arith) (omega arith) (omega arith)

  pub name-same : attachment_name ds e ≡ attachment_name bs f
  unfolding attachment_name
  name-same = same-inside 108 ds (e + 20) bs (f + 20) s.rest 28 80 (e + 48) (f + 48) (omega arith) (omega arith) (omega arith)

-- ---- the attachments at q of ds and at p of bs, and the directories at t of ds and at u of bs

pub content-size-same : {ds : List ℕ} {q : ℕ} {bs : List ℕ} {p : ℕ} → SameAttachment ds q bs p → attachment_data_size ds q ≡ attachment_data_size bs p
unfolding attachment_data_size
content-size-same {ds} {q} {bs} {p} s =
    u32-inside 4 ds (q + 32) bs (p + 32) s.size 0 (q + 32) (p + 32) (omega arith) (omega arith) (omega arith)

pub entry-count-same : {ds : List ℕ} {t : ℕ} {bs : List ℕ} {u : ℕ} → SameAttachments ds t bs u → attachment_entry_count ds t ≡ attachment_entry_count bs u
unfolding attachment_entry_count
entry-count-same {ds} {t} {bs} {u} s =
    u32-inside 4 ds (t + 32) bs (u + 32) s.count 0 (t + 32) (u + 32) (omega arith) (omega arith) (omega arith)
