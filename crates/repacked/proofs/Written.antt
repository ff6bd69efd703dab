-- Where the fields of a content stand that is written into a file. A content is a list of pieces, and each piece stands behind the one before it.
-- Assumes nothing.
use Prim.Native.Nat.{ℕ, ◌+◌, ◌-◌, ◌*◌, ◌^◌, ◌≤◌, ◌<◌}
use mathlib.Core.Path.{◌≡◌, refl, sym, ap, ◌∙◌}
use mathlib.Core.List.{List, ◌++◌}
use native.Mathlib.Omega.{arith}
use native.Mathlib.Nat.{add-zero}
use lib.ListN.{length, length-append}
use Rattle.format.specs.Bytes.{u32_at, u64_at, part_of}
use Rattle.format.specs.File.{file_part, directory_position, metadata_position, update_pending, attachment_directory_position}
use Rattle.format.specs.Entry.{dimension_count, file_position, next_entry}
use Rattle.format.specs.SubBlock.{fixed_part, metadata_place}
use Rattle.format.specs.Attachments.{xml_size, xml_attachment_size, attachment_position, attachment_data_size}
use Rattle.equivalent.specs.Same.{Same, SameEntry, SameMetadata, SameAttachmentEntry, SameAttachment}
use Rattle.pack.specs.Pack.{long, zeros}
use Rattle.format.proofs.Parts.{part_length, part-part, part-front, part-back, part-all}
use Rattle.pack.proofs.Numbers.{bytes-length, zeros-length, long-read, int-zero}
use Rattle.repacked.specs.Contents.{file_content, moved_entry, directory_content, parts_size, sub_block_content, metadata_content}
use Rattle.repacked.specs.Contents.{moved_attachment_entry, attachment_directory_content, attachment_content}
use Rattle.repacked.proofs.Lengths.{entry_length, entry-size-is, copy-fits, attachment-entry-length}

-- the bytes xs stand at p of the file fs
abbrev pub Stands : List ℕ → ℕ → List ℕ → Type 0
Stands fs p xs = part_of fs p (length xs) ≡ xs

-- ---- pieces

module _ (fs : List ℕ) (p : ℕ) (xs ys : List ℕ) (h : Stands fs p (xs ++ ys)) where
  pub stands-front : Stands fs p xs
  stands-front =
      let l : 0 + length xs ≤ length (xs ++ ys) = omega (arith, length-append xs ys) in
      let a : part_of fs p (length xs) ≡ part_of (xs ++ ys) 0 (length xs) =
      sym (rw (add-zero p) at (part-part fs p (length (xs ++ ys)) 0 (length xs) l)) ∙ ap (λ l. part_of l 0 (length xs)) h in
      a ∙ part-front xs ys 0 (length xs) (omega arith) ∙ part-all xs (length xs) refl

  -- what stands behind the first n bytes, at q
  pub stands-back : (n q : ℕ) → length xs ≡ n → q ≡ p + n → Stands fs q ys
  stands-back n q e f =
      let l : length xs + length ys ≤ length (xs ++ ys) = omega (arith, length-append xs ys) in
      let a : part_of fs (p + length xs) (length ys) ≡ part_of (xs ++ ys) (length xs) (length ys) =
      sym (part-part fs p (length (xs ++ ys)) (length xs) (length ys) l) ∙ ap (λ l. part_of l (length xs) (length ys)) h in
      let at : q ≡ p + length xs = omega arith in
      rw at (a ∙ part-back xs ys (length xs) 0 (length ys) (omega arith) ∙ part-all ys (length ys) refl)

-- ---- what a piece says

-- bytes that are kept
pub stands-kept : (fs : List ℕ) (p : ℕ) (bs : List ℕ) (a n : ℕ) → a + n ≤ length bs → Stands fs p (part_of bs a n) → Same n bs a fs p
stands-kept fs p bs a n l h = sym (rw (part_length bs a n l) at h)

pub stands-long : (fs : List ℕ) (p x : ℕ) → x < 2 ^ 64 → Stands fs p (long x) → u64_at fs p ≡ x
stands-long fs p x l h = long-read fs p x (rw (bytes-length 8 x) at h) l

pub stands-zero : (fs : List ℕ) (p : ℕ) → Stands fs p (zeros 4) → u32_at fs p ≡ 0
stands-zero fs p h = int-zero fs p (rw (zeros-length 4) at h)

-- ---- the file segment

pub record FileFields (bs fs : List ℕ) (d m a : ℕ) : Type 0 where
  pub version : Same 8 bs 32 fs 32
  pub guids : Same 32 bs 48 fs 48
  pub part : file_part fs ≡ 0
  pub directory : directory_position fs ≡ d
  pub metadata : metadata_position fs ≡ m
  pub settled : update_pending fs ≡ 0
  pub attachments : attachment_directory_position fs ≡ a

pub file-fields : (bs fs : List ℕ) (d m a : ℕ) → 80 ≤ length bs → d < 2 ^ 64 → m < 2 ^ 64 → a < 2 ^ 64 → Stands fs 32 (file_content bs d m a)
    → FileFields bs fs d m a
unfolding file_content file_part directory_position metadata_position update_pending attachment_directory_position
file-fields bs fs d m a l dl ml al h =
    let h₁ = stands-back fs 32 (part_of bs 32 8) _ h 8 40 (part_length bs 32 8 (omega arith)) refl in
    let h₂ = stands-back fs 40 (zeros 8) _ h₁ 8 48 (zeros-length 8) refl in
    let h₃ = stands-back fs 48 (part_of bs 48 32) _ h₂ 32 80 (part_length bs 48 32 (omega arith)) refl in
    let h₄ = stands-back fs 80 (zeros 4) _ h₃ 4 84 (zeros-length 4) refl in
    let h₅ = stands-back fs 84 (long d) _ h₄ 8 92 (bytes-length 8 d) refl in
    let h₆ = stands-back fs 92 (long m) _ h₅ 8 100 (bytes-length 8 m) refl in
    let h₇ = stands-back fs 100 (zeros 4) _ h₆ 4 104 (zeros-length 4) refl in
    record {
      version = stands-kept fs 32 bs 32 8 (omega arith) (stands-front fs 32 (part_of bs 32 8) _ h);
      guids = stands-kept fs 48 bs 48 32 (omega arith) (stands-front fs 48 (part_of bs 48 32) _ h₂);
      part = stands-zero fs 80 (stands-front fs 80 (zeros 4) _ h₃);
      directory = stands-long fs 84 d dl (stands-front fs 84 (long d) _ h₄);
      metadata = stands-long fs 92 m ml (stands-front fs 92 (long m) _ h₅);
      settled = stands-zero fs 100 (stands-front fs 100 (zeros 4) _ h₆);
      attachments = stands-long fs 104 a al (stands-front fs 104 (long a) (zeros 432) h₇);
    }

-- ---- an entry, moved from e to f, of a sub-block that is now at p

pub record EntryFields (bs : List ℕ) (e : ℕ) (fs : List ℕ) (f p : ℕ) : Type 0 where
  pub same : SameEntry bs e fs f
  pub position : file_position fs f ≡ p

pub entry-fields : (bs : List ℕ) (e : ℕ) (fs : List ℕ) (f p : ℕ) → next_entry bs e ≤ length bs → p < 2 ^ 64 → Stands fs f (moved_entry bs e p)
    → EntryFields bs e fs f p
unfolding moved_entry file_position next_entry
entry-fields bs e fs f p l pl h =
    let n = 4 + 20 * dimension_count bs e in
    let in₁ : e + 6 ≤ length bs = omega arith in
    let in₂ : e + 14 + 9 ≤ length bs = omega arith in
    let in₃ : e + 28 + n ≤ length bs = omega arith in
    let h₁ = stands-back fs f (part_of bs e 6) _ h 6 (f + 6) (part_length bs e 6 in₁) refl in
    let h₂ = stands-back fs (f + 6) (long p) _ h₁ 8 (f + 14) (bytes-length 8 p) (omega arith) in
    let h₃ = stands-back fs (f + 14) (part_of bs (e + 14) 9) _ h₂ 9 (f + 23) (part_length bs (e + 14) 9 in₂) (omega arith) in
    let h₄ = stands-back fs (f + 23) (zeros 5) (part_of bs (e + 28) n) h₃ 5 (f + 28) (zeros-length 5) (omega arith) in
    record {
      same = record {
        front = stands-kept fs f bs e 6 in₁ (stands-front fs f (part_of bs e 6) _ h);
        middle = stands-kept fs (f + 14) bs (e + 14) 9 in₂ (stands-front fs (f + 14) (part_of bs (e + 14) 9) _ h₂);
        rest = stands-kept fs (f + 28) bs (e + 28) n in₃ h₄;
      };
      position = stands-long fs (f + 6) p pl (stands-front fs (f + 6) (long p) _ h₁);
    }

-- ---- the directory, moved from d to t

pub record DirectoryFields (bs : List ℕ) (d : ℕ) (entries fs : List ℕ) (t : ℕ) : Type 0 where
  pub count : Same 4 bs (d + 32) fs (t + 32)
  pub listed : Stands fs (t + 160) entries

pub directory-fields : (bs : List ℕ) (d : ℕ) (entries fs : List ℕ) (t : ℕ) → d + 36 ≤ length bs → Stands fs (t + 32) (directory_content bs d entries)
    → DirectoryFields bs d entries fs t
unfolding directory_content
directory-fields bs d entries fs t l h =
    let inside : d + 32 + 4 ≤ length bs = omega arith in
    let h₁ = stands-back fs (t + 32) (part_of bs (d + 32) 4) _ h 4 (t + 36) (part_length bs (d + 32) 4 inside) (omega arith) in
    record {
      count = stands-kept fs (t + 32) bs (d + 32) 4 inside (stands-front fs (t + 32) (part_of bs (d + 32) 4) _ h);
      listed = stands-back fs (t + 36) (zeros 124) entries h₁ 124 (t + 160) (zeros-length 124) (omega arith);
    }

-- ---- a sub-block, moved from q to p, whose entry is at e

pub record BlockFields (bs : List ℕ) (e q : ℕ) (fs : List ℕ) (p : ℕ) : Type 0 where
  pub sizes : Same 16 bs (q + 32) fs (p + 32)
  pub copy : Stands fs (p + 48) (moved_entry bs e p)
  pub parts : Same (parts_size bs q) bs (metadata_place bs e q) fs (p + 32 + fixed_part (dimension_count bs e))

-- the fixed part: the sizes, the copy of the entry, and spare bytes
fixed-is : (p n f : ℕ) → 48 + 20 * n ≤ f → p + 32 + f ≡ p + 48 + (32 + 20 * n) + (f - (48 + 20 * n))
fixed-is p n f h = omega arith

pub block-fields : (bs : List ℕ) (e q : ℕ) (fs : List ℕ) (p : ℕ) → next_entry bs e ≤ length bs → q + 48 ≤ length bs
    → metadata_place bs e q + parts_size bs q ≤ length bs → Stands fs (p + 32) (sub_block_content bs e q p) → BlockFields bs e q fs p
unfolding sub_block_content
block-fields bs e q fs p el ql pl h =
    let n = dimension_count bs e in
    let spare = fixed_part n - (48 + 20 * n) in
    let copy = moved_entry bs e p in
    let parts = part_of bs (metadata_place bs e q) (parts_size bs q) in
    let inside : q + 32 + 16 ≤ length bs = omega arith in
    let h₁ = stands-back fs (p + 32) (part_of bs (q + 32) 16) _ h 16 (p + 48) (part_length bs (q + 32) 16 inside) (omega arith) in
    let h₂ = stands-back fs (p + 48) copy _ h₁ (32 + 20 * n) (p + 48 + (32 + 20 * n)) (entry_length bs e p el ∙ entry-size-is bs e) refl in
    let behind = fixed-is p n (fixed_part n) (copy-fits n) in
    let h₃ = stands-back fs (p + 48 + (32 + 20 * n)) (zeros spare) parts h₂ spare (p + 32 + fixed_part n) (zeros-length spare) behind in
    record {
      sizes = stands-kept fs (p + 32) bs (q + 32) 16 inside (stands-front fs (p + 32) (part_of bs (q + 32) 16) _ h);
      copy = stands-front fs (p + 48) copy _ h₁;
      parts = stands-kept fs (p + 32 + fixed_part n) bs (metadata_place bs e q) (parts_size bs q) pl h₃;
    }

-- ---- the metadata segment, moved from m to p

pub metadata-fields : (bs : List ℕ) (m : ℕ) (fs : List ℕ) (p : ℕ) → m + 288 + (xml_size bs m + xml_attachment_size bs m) ≤ length bs
    → Stands fs (p + 32) (metadata_content bs m) → SameMetadata bs m fs p
unfolding metadata_content
metadata-fields bs m fs p l h =
    let n = xml_size bs m + xml_attachment_size bs m in
    let inside : m + 32 + 8 ≤ length bs = omega arith in
    let h₁ = stands-back fs (p + 32) (part_of bs (m + 32) 8) _ h 8 (p + 40) (part_length bs (m + 32) 8 inside) (omega arith) in
    let h₂ = stands-back fs (p + 40) (zeros 248) (part_of bs (m + 288) n) h₁ 248 (p + 288) (zeros-length 248) (omega arith) in
    record {
      sizes = stands-kept fs (p + 32) bs (m + 32) 8 inside (stands-front fs (p + 32) (part_of bs (m + 32) 8) _ h);
      parts = stands-kept fs (p + 288) bs (m + 288) n l h₂;
    }

-- ---- an attachment's entry, moved from e to f, of an attachment that is now at p

pub record AttachmentEntryFields (bs : List ℕ) (e : ℕ) (fs : List ℕ) (f p : ℕ) : Type 0 where
  pub same : SameAttachmentEntry bs e fs f
  pub position : attachment_position fs f ≡ p

pub attachment-entry-fields : (bs : List ℕ) (e : ℕ) (fs : List ℕ) (f p : ℕ) → e + 128 ≤ length bs → p < 2 ^ 64 → Stands fs f (moved_attachment_entry bs e p)
    → AttachmentEntryFields bs e fs f p
unfolding moved_attachment_entry attachment_position
attachment-entry-fields bs e fs f p l pl h =
    let in₁ : e + 2 ≤ length bs = omega arith in
    let in₂ : e + 20 + 108 ≤ length bs = omega arith in
    let h₁ = stands-back fs f (part_of bs e 2) _ h 2 (f + 2) (part_length bs e 2 in₁) refl in
    let h₂ = stands-back fs (f + 2) (zeros 10) _ h₁ 10 (f + 12) (zeros-length 10) (omega arith) in
    let h₃ = stands-back fs (f + 12) (long p) (part_of bs (e + 20) 108) h₂ 8 (f + 20) (bytes-length 8 p) (omega arith) in
    record {
      same = record {
        mark = stands-kept fs f bs e 2 in₁ (stands-front fs f (part_of bs e 2) _ h);
        rest = stands-kept fs (f + 20) bs (e + 20) 108 in₂ h₃;
      };
      position = stands-long fs (f + 12) p pl (stands-front fs (f + 12) (long p) _ h₂);
    }

-- ---- the attachment directory, moved from t to u

pub record AttachmentsFields (bs : List ℕ) (t : ℕ) (entries fs : List ℕ) (u : ℕ) : Type 0 where
  pub count : Same 4 bs (t + 32) fs (u + 32)
  pub listed : Stands fs (u + 288) entries

pub attachments-fields : (bs : List ℕ) (t : ℕ) (entries fs : List ℕ) (u : ℕ) → t + 36 ≤ length bs
    → Stands fs (u + 32) (attachment_directory_content bs t entries) → AttachmentsFields bs t entries fs u
unfolding attachment_directory_content
attachments-fields bs t entries fs u l h =
    let inside : t + 32 + 4 ≤ length bs = omega arith in
    let h₁ = stands-back fs (u + 32) (part_of bs (t + 32) 4) _ h 4 (u + 36) (part_length bs (t + 32) 4 inside) (omega arith) in
    record {
      count = stands-kept fs (u + 32) bs (t + 32) 4 inside (stands-front fs (u + 32) (part_of bs (t + 32) 4) _ h);
      listed = stands-back fs (u + 36) (zeros 252) entries h₁ 252 (u + 288) (zeros-length 252) (omega arith);
    }

-- ---- an attachment, moved from q to p, whose entry is at e

pub record AttachmentFields (bs : List ℕ) (e q : ℕ) (fs : List ℕ) (p : ℕ) : Type 0 where
  pub same : SameAttachment bs q fs p
  pub copy : Stands fs (p + 48) (moved_attachment_entry bs e p)

pub attachment-fields : (bs : List ℕ) (e q : ℕ) (fs : List ℕ) (p : ℕ) → e + 128 ≤ length bs → q + 288 + attachment_data_size bs q ≤ length bs
    → Stands fs (p + 32) (attachment_content bs e q p) → AttachmentFields bs e q fs p
unfolding attachment_content
attachment-fields bs e q fs p el ql h =
    let n = attachment_data_size bs q in
    let copy = moved_attachment_entry bs e p in
    let inside : q + 32 + 4 ≤ length bs = omega arith in
    let h₁ = stands-back fs (p + 32) (part_of bs (q + 32) 4) _ h 4 (p + 36) (part_length bs (q + 32) 4 inside) (omega arith) in
    let h₂ = stands-back fs (p + 36) (zeros 12) _ h₁ 12 (p + 48) (zeros-length 12) (omega arith) in
    let h₃ = stands-back fs (p + 48) copy _ h₂ 128 (p + 176) (attachment-entry-length bs e p el) (omega arith) in
    let h₄ = stands-back fs (p + 176) (zeros 112) (part_of bs (q + 288) n) h₃ 112 (p + 288) (zeros-length 112) (omega arith) in
    record {
      same = record {
        size = stands-kept fs (p + 32) bs (q + 32) 4 inside (stands-front fs (p + 32) (part_of bs (q + 32) 4) _ h);
        content = stands-kept fs (p + 288) bs (q + 288) n ql h₄;
      };
      copy = stands-front fs (p + 48) copy _ h₂;
    }
