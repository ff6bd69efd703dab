-- The rows of the three segments that the file segment names, and of their entries, accept exactly where those are well formed. Assumes nothing.
use Prim.Native.Nat.{ℕ, ◌<◌}
use mathlib.Core.Path.{◌≡◌, refl}
use mathlib.Core.Logic.{◌⊎◌, ◌↔◌, inl, inr, ⊎_elim}
use mathlib.Core.List.{List, [], ◌∷◌}
use mathlib.Core.Bool.{true, false, cond}
use native.Mathlib.Omega.{arith}
use lib.Dec.{eqb}
use borrow.Author.Tests.{le-ltb, ltb-false, eq-eqb, ne_eqb, eqb-true, eqb-false, not-false}
use Rattle.format.specs.Names.{name_metadata, name_attachment_directory}
use Rattle.format.specs.Checks.{Check, row, first, rows_below}
use Rattle.format.specs.Scan.{Scan, block_file}
use Rattle.format.specs.Segments.{walked}
use Rattle.format.specs.File.{directory_position, metadata_position, attachment_directory_position}
use Rattle.format.specs.File.{names_none, names_none_but0}
use Rattle.format.specs.Entry.{file_position}
use Rattle.format.specs.SubBlock.{metadata_size, attachment_size, metadata_place, attachment_place}
use Rattle.format.specs.Masks.{has_chunks}
use Rattle.format.specs.Directory.{tile_count, entry_place, directory_bad, head_rows, tile_rows, sub_block_rows, attachment_rows, entry_rows, directory_rows}
use Rattle.format.specs.Attachments.{metadata_bad, metadata_rows, attachment_directory_bad, attachment_entry_count, attachment_entry}
use Rattle.format.specs.Attachments.{attachment_entry_rows, attachment_directory_rows, attachments_rows}
use Rattle.format.specs.WellFormed.{DeclaresChunks, ChunksFill, Names, Entry, AttachmentEntry, AttachmentDirectory}
use Rattle.format.specs.declared.Release.{Release}
use Rattle.format.specs.declared.Release.TheVariants.{R102, R12}
use Rattle.format.specs.Checks.{Accepted}
use Rattle.format.proofs.Below.{by_bool}
use Rattle.format.proofs.Firsts.{first-passed, passed, passed-rest, rows-each, rows_all}
use Rattle.format.proofs.SegmentLaws.{names-ok, names-accepted}
use Rattle.format.proofs.Declaring.{container-iff}
use Rattle.format.proofs.ChunkWalk.{chunks-ok, chunks-accepted}
use Rattle.format.specs.declared.Fault.TheVariants as Fault

-- ---- a sub-block's attachment

-- 1.02 is not 1.2
older-is-not : R102 ≡ R12 → ⊥
older-is-not e = let z : ◌≡◌ {A = ℕ} 0 1 = cc in absurd (omega arith)

module _ (ds : List ℕ) (e : ℕ) (bs : List ℕ) (q : ℕ) where
  chunks-declared : (r : Release) → DeclaresChunks ds e bs q r ↔ (has_chunks ds e bs q r ≡ true)
  unfolding has_chunks
  chunks-declared R102 = (λ d. absurd (older-is-not d.0), λ h. let z : ◌≡◌ {A = ℕ} 0 1 = cc in absurd (omega arith))
  chunks-declared R12 =
      let declared = container-iff bs (metadata_place ds e q) (metadata_size bs q) in
      (λ d. declared.0 d.1, λ h. (refl, declared.1 h))

  module _ (r : Release) where
    container-ok : first (attachment_rows ds e bs q r) ≡ Accepted → DeclaresChunks ds e bs q r → ChunksFill ds e bs q
    unfolding attachment_rows
    container-ok a d = let c = (chunks-declared r).0 d in chunks-ok bs (attachment_size bs q) (attachment_place ds e bs q) (rw c at a)

    container-accepted : (DeclaresChunks ds e bs q r → ChunksFill ds e bs q) → first (attachment_rows ds e bs q r) ≡ Accepted
    unfolding attachment_rows
    container-accepted h =
        by_bool (has_chunks ds e bs q r)
        (λ c. rw c (chunks-accepted bs (attachment_size bs q) (attachment_place ds e bs q) (h ((chunks-declared r).1 c))))
        (λ c. rw c)

-- ---- an entry DV

module _ (sc : Scan) (d e : ℕ) where
  entry-ok : first (entry_rows sc d e) ≡ Accepted → Entry sc (walked (block_file sc e)) d e
  unfolding entry_rows head_rows tile_rows sub_block_rows
  entry-ok x =
      let g = passed (entry_rows sc d e) x in
      record {
        head_fits = ltb-false _ _ (g 0);
        head = g 1;
        fits = ltb-false _ _ (g 2);
        dimensions = g 3;
        listed = eqb-false _ _ (g 4);
        uncompressed = eqb-true _ _ (not-false _ (g 5));
        part = eqb-true _ _ (not-false _ (g 6));
        names = names-ok (block_file sc e) _ _ (not-false _ (g 7));
        block = g 8;
        contents = g 9;
        container = container-ok sc.file e (block_file sc e) (file_position sc.file e) sc.release (passed-rest (entry_rows sc d e) x 10);
      }

  entry-accepted : Entry sc (walked (block_file sc e)) d e → first (entry_rows sc d e) ≡ Accepted
  unfolding entry_rows head_rows tile_rows sub_block_rows
  entry-accepted x =
      rw (
        le-ltb _ _ x.head_fits,
        x.head,
        le-ltb _ _ x.fits,
        x.dimensions,
        ne_eqb _ _ x.listed,
        eq-eqb _ _ x.uncompressed,
        eq-eqb _ _ x.part,
        names-accepted (block_file sc e) _ _ x.names,
        x.block,
        x.contents,
      )
      (container-accepted sc.file e (block_file sc e) (file_position sc.file e) sc.release x.container)

-- ---- an entry A1

module _ (bs : List ℕ) (e : ℕ) where
  attachment-entry-ok : first (attachment_entry_rows bs e) ≡ Accepted → AttachmentEntry bs (walked bs) e
  unfolding attachment_entry_rows
  attachment-entry-ok x =
      let g = passed (attachment_entry_rows bs e) x in
      record {
        entry = g 0;
        part = eqb-true _ _ (not-false _ (g 1));
        names = names-ok bs _ _ (not-false _ (g 2));
        attachment = g 3;
        contents = g 4;
      }

  attachment-entry-accepted : AttachmentEntry bs (walked bs) e → first (attachment_entry_rows bs e) ≡ Accepted
  unfolding attachment_entry_rows
  attachment-entry-accepted x = rw (x.entry, eq-eqb _ _ x.part, names-accepted bs _ _ x.names, x.attachment, x.contents)

-- ---- a segment that need not be there: refusal 9 where 0 means none, and the segment's rows

-- there is none, or q names a segment of that name, of which P holds
abbrev Optional : List ℕ → ℕ → List ℕ → Type 0 → Type 0
Optional bs q name P = (q ≡ 0) ⊎ (Names bs (walked bs) q name × P)

module _ (bs : List ℕ) (q : ℕ) (name : List ℕ) (rows : List Check) where
  optional-ok : names_none_but0 bs q name ≡ false → first (cond (eqb q 0) [] rows) ≡ Accepted → Optional bs q name (first rows ≡ Accepted)
  unfolding names_none_but0 names_none
  optional-ok n e = by_bool (eqb q 0) (λ f. inl (eqb-true q 0 f)) (λ f. inr (names-ok bs q name (not-false _ (rw f at n)), rw f at e))

  optional-accepted : Optional bs q name (first rows ≡ Accepted) → (names_none_but0 bs q name ≡ false) × (first (cond (eqb q 0) [] rows) ≡ Accepted)
  unfolding names_none_but0 names_none
  optional-accepted (inl e) = rw (eq-eqb q 0 e) (refl, refl)
  optional-accepted (inr x) = by_bool (eqb q 0) (λ f. rw f (refl, refl)) (λ f. rw (f, names-accepted bs q name x.0) (refl, x.1))

module _ (bs : List ℕ) where
  -- ---- the metadata segment

  abbrev metadata_row : List Check
  metadata_row = row Fault.Directory (metadata_position bs) (metadata_bad bs (metadata_position bs)) ∷ []

  pub metadata-ok : names_none_but0 bs (metadata_position bs) name_metadata ≡ false → first (metadata_rows bs) ≡ Accepted
      → Optional bs (metadata_position bs) name_metadata (metadata_bad bs (metadata_position bs) ≡ false)
  unfolding metadata_rows
  metadata-ok n e =
      ⊎_elim inl (λ x. inr (x.0, passed metadata_row x.1 0)) (optional-ok bs (metadata_position bs) name_metadata metadata_row n e)

  pub metadata-accepted : Optional bs (metadata_position bs) name_metadata (metadata_bad bs (metadata_position bs) ≡ false)
      → (names_none_but0 bs (metadata_position bs) name_metadata ≡ false) × (first (metadata_rows bs) ≡ Accepted)
  unfolding metadata_rows
  metadata-accepted m =
      optional-accepted bs (metadata_position bs) name_metadata metadata_row (⊎_elim inl (λ x. inr (x.0, rw x.1)) m)

  -- ---- the attachment directory, at t

  entries-ok : (t : ℕ) → Names bs (walked bs) t name_attachment_directory → first (attachment_directory_rows bs t) ≡ Accepted
      → AttachmentDirectory bs (walked bs) t
  unfolding attachment_directory_rows
  entries-ok t n e =
      let f = first-passed (attachment_directory_bad bs t) _ (first (rows_below (attachment_entry_count bs t) _)) e in
      record { names = n; directory = f.0; entries = λ k h. attachment-entry-ok bs (attachment_entry t k) (rows-each (attachment_entry_count bs t) k _ f.1 h) }

  entries-accepted : (t : ℕ) → AttachmentDirectory bs (walked bs) t → first (attachment_directory_rows bs t) ≡ Accepted
  unfolding attachment_directory_rows
  entries-accepted t a =
      rw a.directory (rows_all (attachment_entry_count bs t) _ (λ k l. attachment-entry-accepted bs (attachment_entry t k) (a.entries k l)))

  abbrev t : ℕ
  t = attachment_directory_position bs

  pub attachments-ok : names_none_but0 bs t name_attachment_directory ≡ false → first (attachments_rows bs) ≡ Accepted
      → (t ≡ 0) ⊎ AttachmentDirectory bs (walked bs) t
  unfolding attachments_rows
  attachments-ok n e =
      ⊎_elim inl (λ x. inr (entries-ok t x.0 x.1)) (optional-ok bs t name_attachment_directory (attachment_directory_rows bs t) n e)

  pub attachments-accepted : (t ≡ 0) ⊎ AttachmentDirectory bs (walked bs) t
      → (names_none_but0 bs t name_attachment_directory ≡ false) × (first (attachments_rows bs) ≡ Accepted)
  unfolding attachments_rows
  attachments-accepted a =
      optional-accepted bs t name_attachment_directory (attachment_directory_rows bs t) (⊎_elim inl (λ x. inr (x.names, entries-accepted t x)) a)

-- ---- the sub-block directory

module _ (sc : Scan) where
  abbrev d : ℕ
  d = directory_position sc.file

  abbrev Entries : Type 0
  Entries = (k : ℕ) → k < tile_count sc.file → Entry sc (walked sc.file) d (entry_place sc.file k)

  pub directory-ok : first (directory_rows sc) ≡ Accepted → (directory_bad sc.file d ≡ false) × Entries
  unfolding directory_rows
  directory-ok e =
      let f = first-passed (directory_bad sc.file d) _ (first (rows_below (tile_count sc.file) _)) e in
      (f.0, λ k h. entry-ok sc d (entry_place sc.file k) (rows-each (tile_count sc.file) k _ f.1 h))

  pub directory-accepted : directory_bad sc.file d ≡ false → Entries → first (directory_rows sc) ≡ Accepted
  unfolding directory_rows
  directory-accepted e h = rw e (rows_all (tile_count sc.file) _ (λ k l. entry-accepted sc d (entry_place sc.file k) (h k l)))
