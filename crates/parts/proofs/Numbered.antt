-- What an accepted question about a tile, a dimension, an attachment or the metadata segment tells, and how its verdict comes about. Assumes nothing.
use Prim.Native.Nat.{ℕ, ◌+◌, ◌^◌, ◌≤◌, ◌<◌}
use mathlib.Core.Path.{◌≡◌, sym, ◌∙◌}
use mathlib.Core.List.{List, [], ◌∷◌, ◌++◌, append_assoc}
use mathlib.Core.Bool.{Bool, true, false, cond}
use native.Mathlib.Omega.{arith}
use lib.ListN.{length}
use lib.Dec.{eqb, leb}
use Rattle.std.specs.Prelude.{Err}
use borrow.Author.Tests.{leb-false, eq-eqb, ne_eqb}
use Rattle.format.specs.Scan.{Scan, scan_of, block_file}
use Rattle.format.specs.Checks.{Verdict, Accepted, Refused, Check, row, first}
use Rattle.format.specs.File.{metadata_position, attachment_directory_position}
use Rattle.format.specs.Entry.{dimension_count, dimension_place, file_position}
use Rattle.format.specs.Directory.{tile_count, entry_place}
use Rattle.format.specs.Attachments.{xml_size, xml_attachment_size, attachment_count, attachment_entry_count, attachment_entry, attachment_position, attachment_data_size}
use Rattle.format.specs.Rules.{checks, verdict, AcceptedFile, tile_verdict, attachment_verdict}
use Rattle.format.specs.Records.{tile_entry, tile_file, tile_position, dimension_verdict, span, xml_span, xml_attachment_span}
use Rattle.format.specs.declared.Release.{Release}
use Rattle.format.specs.declared.Span.{Span}
use Rattle.format.specs.declared.Fault.TheVariants as Fault
use Rattle.format.specs.declared.Refusal.{Refusal}
use Rattle.format.specs.Answers.{VerdictAnswered}
use Rattle.format.proofs.Firsts.{first-both, first-passed}
use Rattle.format.proofs.Answering.{verdict-answered, accepted}
use Rattle.directory.proofs.Stages.{then-stop, then_next}
use Rattle.subblocks.specs.Judged.{Filled, Judged}
use Rattle.subblocks.proofs.PartLaws.{listed_in}
use Rattle.entries.proofs.EntryLaws.{dimension-within}
use Rattle.judge.proofs.AcceptedFile.{tiled, described, Attached, attached, tiled-file, accepted-under}

-- ---- the row of a number that is not there behind other rows, of which v was answered

abbrev pub Asked : List Check → Bool → List Check
Asked rows none = rows ++ (row Fault.NoSuchNumber 0 none ∷ [])

module _ (rows : List Check) (none : Bool) (v : Verdict) (a : VerdictAnswered (first rows) v) where
  pub refused-before : (e : Refusal) → v ≡ Err e → VerdictAnswered (first (Asked rows none)) (Err e)
  refused-before e h = verdict-answered (then-stop v rows (row Fault.NoSuchNumber 0 none ∷ []) e a.answer_is h)

  pub no_such : v ≡ Accepted → none ≡ true → VerdictAnswered (first (Asked rows none)) (Refused Fault.NoSuchNumber 0)
  no_such h t = verdict-answered (then_next v (Refused Fault.NoSuchNumber 0) rows (row Fault.NoSuchNumber 0 none ∷ []) a.answer_is h (rw t))

  pub is-there : v ≡ Accepted → none ≡ false → VerdictAnswered (first (Asked rows none)) Accepted
  is-there h t = verdict-answered (then_next v Accepted rows (row Fault.NoSuchNumber 0 none ∷ []) a.answer_is h (rw t))

asked-both : (rows : List Check) (none : Bool) → first (Asked rows none) ≡ Accepted → (first rows ≡ Accepted) × (none ≡ false)
asked-both rows none h =
    let both = first-both rows (row Fault.NoSuchNumber 0 none ∷ []) h in
    (both.0, (first-passed none _ Accepted both.1).0)

-- ---- tiles

pub record TileThere (sc : Scan) (n : ℕ) : Type 0 where
  pub accepted : verdict sc ≡ Accepted
  pub below : n < tile_count sc.file
  pub judged : Judged sc.file (tile_entry sc n) (tile_file sc n) (tile_position sc n) sc.release

pub tile-there : (sc : Scan) (n : ℕ) → tile_verdict sc n ≡ Accepted → TileThere sc n
unfolding verdict tile_verdict
tile-there sc n h =
    let both = asked-both (checks sc) (leb (tile_count sc.file) n) h in
    let below = leb-false (tile_count sc.file) n both.1 in
    record { accepted = both.0; below = below; judged = (tiled sc both.0).tile n below }

-- of the lent file bs, by the answer v under the release r
module _ (bs : List ℕ) (r : Release) (n : ℕ) {v : Verdict} (a : VerdictAnswered (tile_verdict (scan_of bs r) n) v) (h : v ≡ Accepted) where
  pub tile-file : AcceptedFile bs
  tile-file = accepted-under bs r (tile-there (scan_of bs r) n (accepted a h)).accepted

  pub tile-below : n < tile_count bs
  tile-below = (tile-there (scan_of bs r) n (accepted a h)).below

-- what may be read of its entry, at e
pub tile-fixed : (bs : List ℕ) → AcceptedFile bs → (n : ℕ) → n < tile_count bs → (e : ℕ) → e ≡ entry_place bs n → e + 32 ≤ length bs
tile-fixed bs a n l e i = rw i (listed_in _ _ ((tiled-file bs a).listed n l))

-- the sub-block at q of the entry at e of tile n of the lent file bs
module _ (bs : List ℕ) (r : Release) (n e q : ℕ) {v : Verdict} (a : VerdictAnswered (tile_verdict (scan_of bs r) n) v) (h : v ≡ Accepted)
    (i : e ≡ tile_entry (scan_of bs r) n) (j : q ≡ file_position bs e) where
  pub judged-at : Judged bs e (block_file (scan_of bs r) e) q r
  judged-at = rw (j, i) (tile-there (scan_of bs r) n (accepted a h)).judged

  pub filled_at : Filled bs e (block_file (scan_of bs r) e) q
  filled_at = judged-at.filled

-- ---- dimensions of a tile

pub dimension-asked : (sc : Scan) (n k : ℕ)
    → dimension_verdict sc n k ≡ first (Asked (Asked (checks sc) (leb (tile_count sc.file) n)) (leb (dimension_count sc.file (tile_entry sc n)) k))
unfolding dimension_verdict
dimension-asked sc n k = rw append_assoc

pub record DimensionThere (sc : Scan) (n k : ℕ) : Type 0 where
  pub tile : TileThere sc n
  pub small : length sc.file ≤ 2 ^ 40
  pub within : dimension_place (tile_entry sc n) k + 20 ≤ length sc.file

dimension-there : (sc : Scan) (n k : ℕ) → dimension_verdict sc n k ≡ Accepted → DimensionThere sc n k
unfolding tile_verdict
dimension-there sc n k h =
    let e = tile_entry sc n in
    let asked = Asked (checks sc) (leb (tile_count sc.file) n) in
    let both = asked-both asked (leb (dimension_count sc.file e) k) (sym (dimension-asked sc n k) ∙ h) in
    let t = tile-there sc n both.0 in
    let l = t.judged.filled.agreed.placed.listed in
    record {
      tile = t;
      small = (tiled sc t.accepted).small;
      within = omega (arith, l.entry, dimension-within sc.file e k (leb-false (dimension_count sc.file e) k both.1));
    }

-- of the lent file bs, by the answer v under the release r
module _ (bs : List ℕ) (r : Release) (n k : ℕ) {v : Verdict} (a : VerdictAnswered (dimension_verdict (scan_of bs r) n k) v) (h : v ≡ Accepted) where
  there : DimensionThere (scan_of bs r) n k
  there = dimension-there (scan_of bs r) n k (accepted a h)

  pub dimension-file : AcceptedFile bs
  dimension-file = accepted-under bs r there.tile.accepted

  pub dimension-below : n < tile_count bs
  dimension-below = there.tile.below

  -- what may be read of dimension k of the entry at e
  module _ (e : ℕ) (i : e ≡ entry_place bs n) where
    pub dimension-small : dimension_place e k < 2 ^ 64
    dimension-small = rw i (omega (arith, there.small, there.within))

    pub dimension-in : (d : ℕ) → d ≡ dimension_place e k → d + 20 ≤ length bs
    dimension-in d j = rw (j, i) there.within

-- ---- attachments

-- without an attachment directory there are none
attachments-some : (t n k : ℕ) → k < cond (eqb t 0) 0 n → (t ≡ 0 → ⊥) × (k < n)
attachments-some t n k h = ((λ e. let l = rw (eq-eqb t 0 e) at h in absurd (omega arith)), go (eqb t 0) h)
  where
    go : (b : Bool) → k < cond b 0 n → k < n
    go true l = absurd (omega arith)
    go false l = l

-- the entry and the place of attachment n
abbrev pub annex_entry : List ℕ → ℕ → ℕ
annex_entry bs n = attachment_entry (attachment_directory_position bs) n

abbrev pub annex_position : List ℕ → ℕ → ℕ
annex_position bs n = attachment_position bs (annex_entry bs n)

-- of the lent file bs, accepted under the release r
pub annex-there : (bs : List ℕ) (r : Release) (n : ℕ) → attachment_verdict (scan_of bs r) n ≡ Accepted → AcceptedFile bs × (n < attachment_count bs)
unfolding verdict attachment_verdict
annex-there bs r n h =
    let both = asked-both (checks (scan_of bs r)) (leb (attachment_count bs) n) h in
    (accepted-under bs r both.0, leb-false (attachment_count bs) n both.1)

-- by the answer v
module _ (bs : List ℕ) (r : Release) (n : ℕ) {v : Verdict} (a : VerdictAnswered (attachment_verdict (scan_of bs r) n) v) (h : v ≡ Accepted) where
  pub annex-file : AcceptedFile bs
  annex-file = (annex-there bs r n (accepted a h)).0

  pub annex-below : n < attachment_count bs
  annex-below = (annex-there bs r n (accepted a h)).1

-- what may be read of it
module _ (bs : List ℕ) (a : AcceptedFile bs) (n : ℕ) (l : n < attachment_count bs) where
  annexed : Attached (scan_of bs a.release) (annex_entry bs n) (annex_position bs n)
  unfolding attachment_count
  annexed =
      let t = attachment_directory_position bs in
      let s = attachments-some t (attachment_entry_count bs t) n l in
      (attached (scan_of bs a.release) a.accepted s.0).attachment n s.1

  -- of the entry, where the attachment directory is at t
  pub annex-small : (t : ℕ) → t ≡ attachment_directory_position bs → attachment_entry t n < 2 ^ 64
  annex-small t i = rw i (omega (arith, (tiled-file bs a).small, annexed.entry))

  pub annex-in : (e : ℕ) → e ≡ annex_entry bs n → e + 128 ≤ length bs
  annex-in e j = rw j annexed.entry

  -- of the attachment at q
  pub data-in : (q : ℕ) → q ≡ annex_position bs n → q + 288 + attachment_data_size bs q ≤ length bs
  data-in q i = rw i (omega (arith, annexed.room_in, annexed.fits))

-- the attachment directory was found at t, its entry at e, itself at q
module _ (bs : List ℕ) (n t e : ℕ) (i : t ≡ attachment_directory_position bs) (j : e ≡ attachment_entry t n) where
  pub annex-is : e ≡ annex_entry bs n
  annex-is = j ∙ rw i

  pub annex-at : (q : ℕ) → q ≡ attachment_position bs e → q ≡ annex_position bs n
  annex-at q k = k ∙ rw annex-is

-- ---- the metadata segment

-- what may be read of the lent file bs where the metadata segment is at m
pub xml-in : (bs : List ℕ) → AcceptedFile bs → (m : ℕ) → m ≡ metadata_position bs → (m ≡ 0 → ⊥)
    → m + 288 + xml_size bs m + xml_attachment_size bs m ≤ length bs
xml-in bs a m i some = let d = described (scan_of bs a.release) a.accepted (λ z. some (i ∙ z)) in rw i (omega (arith, d.room_in, d.fits))

-- the XML's stretch x where there is a metadata segment, at m, and what lies behind it
module _ (bs : List ℕ) (m : ℕ) (i : m ≡ metadata_position bs) (some : m ≡ 0 → ⊥) (x : Span) (f : x ≡ xml_span bs (metadata_position bs)) where
  xml-is : x ≡ span (m + 288) (xml_size bs m)
  unfolding xml_span
  xml-is = f ∙ rw (← i, ne_eqb m 0 some)

  pub behind-in : AcceptedFile bs → x.start + x.length + xml_attachment_size bs m ≤ length bs
  behind-in a = rw xml-is (xml-in bs a m i some)

  pub behind-is : (n : ℕ) → n ≡ xml_attachment_size bs m → span (x.start + x.length) n ≡ xml_attachment_span bs (metadata_position bs)
  unfolding xml_attachment_span
  behind-is n j = rw (← i, ne_eqb m 0 some, xml-is, j)
