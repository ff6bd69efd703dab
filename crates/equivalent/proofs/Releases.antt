-- The files of two scans that say the same, judged under any release: refused by the same number or both accepted, and then they say the same under it
-- too. Under 1.02 both are accepted; what another release adds are the chunks' rows, and chunks are refused alike. Assumes nothing.
use Prim.Native.Nat.{ℕ, ◌<◌}
use mathlib.Core.Path.{◌≡◌, refl}
use mathlib.Core.List.{List}
use mathlib.Core.Bool.{false}
use Rattle.format.specs.Scan.{Scan, scan_of}
use Rattle.format.specs.Checks.{first}
use Rattle.format.specs.Segments.{segments_rows}
use Rattle.format.specs.File.{directory_position, file_rows}
use Rattle.format.specs.Entry.{file_position}
use Rattle.format.specs.Directory.{tile_count, entry_place, directory_bad, head_rows, tile_rows, sub_block_rows, entry_rows, directory_rows}
use Rattle.format.specs.Attachments.{metadata_rows}
use Rattle.format.specs.Rules.{checks, verdict}
use Rattle.format.specs.declared.Release.{Release}
use Rattle.format.specs.declared.Release.TheVariants.{R102}
use Rattle.format.specs.Checks.{Accepted}
use Rattle.format.proofs.Firsts.{first-both, first-passed, rows-each}
use Rattle.format.proofs.Acceptance.{verdict-parts}
use Rattle.format.proofs.Releases.{accepted-older}
use Rattle.equivalent.specs.Same.{SameBlock, SameScans}
use Rattle.equivalent.specs.Claims.{SameRefusal, AnyRelease}
use Rattle.equivalent.proofs.Refusals.{both-accepted, accepted-too, by-refusal, both-same, below-same}
use Rattle.equivalent.proofs.Chunks.{attachment-refused-same}
use Rattle.equivalent.proofs.Records.{tiles-same}
use Rattle.equivalent.proofs.Calls.{calls, calls-refused}
use Rattle.equivalent.proofs.Equivalence.{all-equivalent}

-- the rows of an entry that no release changes, where 1.02 accepts it
record Unchanging (bs : List ℕ) (d e : ℕ) : Type 0 where
  head : first (head_rows bs d e) ≡ Accepted
  tile : first (tile_rows bs e bs) ≡ Accepted
  block : first (sub_block_rows bs e bs (file_position bs e)) ≡ Accepted

unchanging : (bs : List ℕ) (d e : ℕ) → first (entry_rows (scan_of bs R102) d e) ≡ Accepted → Unchanging bs d e
unfolding entry_rows
unchanging bs d e h =
    let a = first-both (head_rows bs d e) _ h in
    let b = first-both (tile_rows bs e bs) _ a.1 in
    let c = first-both (sub_block_rows bs e bs (file_position bs e)) _ b.1 in
    record { head = a.0; tile = b.0; block = c.0 }

module _ (ds bs : List ℕ) (r : Release) where
  -- entries at e of ds and at f of bs, of directories at d and at c
  entry-refused-same : (d e c f : ℕ) → Unchanging ds d e → Unchanging bs c f → SameBlock ds e ds (file_position ds e) bs f bs (file_position bs f)
      → SameRefusal (first (entry_rows (scan_of ds r) d e)) (first (entry_rows (scan_of bs r) c f))
  unfolding entry_rows
  entry-refused-same d e c f u v s =
      both-same (head_rows ds d e) (head_rows bs c f) _ _ (both-accepted u.head v.head)
      (both-same (tile_rows ds e ds) (tile_rows bs f bs) _ _ (both-accepted u.tile v.tile)
      (both-same (sub_block_rows ds e ds (file_position ds e)) (sub_block_rows bs f bs (file_position bs f)) _ _ (both-accepted u.block v.block)
      (attachment-refused-same s r)))

-- the rows of the directory
module _ (bs : List ℕ) (h : verdict (scan_of bs R102) ≡ Accepted) where
  directory-passed : (directory_bad bs (directory_position bs) ≡ false) × ((k : ℕ) → k < tile_count bs → Unchanging bs (directory_position bs) (entry_place bs k))
  unfolding directory_rows
  directory-passed =
      let d = directory_position bs in
      let both = first-passed (directory_bad bs d) _ _ (verdict-parts (scan_of bs R102) h).directory in (
        both.0,
        λ k l. unchanging bs d (entry_place bs k) (rows-each (tile_count bs) k (λ j. entry_rows (scan_of bs R102) d (entry_place bs j)) both.1 l),
      )

module _ {a b : Scan} (s : SameScans a b) (r : Release) where
  -- both are accepted under 1.02
  older : verdict (scan_of a.file R102) ≡ Accepted
  older = (accepted-older a.file).0 (record { release = a.release; accepted = s.accepted })

  older-too : verdict (scan_of b.file R102) ≡ Accepted
  older-too = (accepted-older b.file).0 (record { release = b.release; accepted = s.accepted-too })

  directory-refused-same : SameRefusal (first (directory_rows (scan_of a.file r))) (first (directory_rows (scan_of b.file r)))
  unfolding directory_rows
  directory-refused-same =
      let p = directory-passed a.file older in
      let q = directory-passed b.file older-too in
      rw (p.0, q.0, ← tiles-same a b s)
      (below-same (tile_count a.file) _ _
      (λ k l. entry-refused-same a.file b.file r _ _ _ _ (p.1 k l) (q.1 k (rw (← tiles-same a b s) l)) (s.block k l)))

  pub verdict-same : SameRefusal (verdict (scan_of a.file r)) (verdict (scan_of b.file r))
  unfolding verdict checks
  verdict-same =
      let p = verdict-parts (scan_of a.file R102) older in
      let q = verdict-parts (scan_of b.file R102) older-too in
      both-same (segments_rows a.file) (segments_rows b.file) _ _ (both-accepted p.segments q.segments)
      (both-same (file_rows a.file) (file_rows b.file) _ _ (both-accepted p.file q.file)
      (both-same (directory_rows (scan_of a.file r)) (directory_rows (scan_of b.file r)) _ _ directory-refused-same
      (both-same (metadata_rows a.file) (metadata_rows b.file) _ _ (both-accepted p.metadata q.metadata)
      (both-accepted p.attachments q.attachments))))

  -- where r accepts them, they say the same under r
  same-under : verdict (scan_of a.file r) ≡ Accepted → SameScans (scan_of a.file r) (scan_of b.file r)
  same-under h = record {
    release = refl;
    accepted = h;
    accepted-too = accepted-too verdict-same h;
    version = s.version;
    guids = s.guids;
    count = s.count;
    entry = s.entry;
    block = s.block;
    metadata-named = s.metadata-named;
    metadata = s.metadata;
    attachments-named = s.attachments-named;
    attachments = s.attachments;
  }

pub any-release : AnyRelease
unfolding verdict
any-release a b s r = record {
  refusal = verdict-same s r;
  further = λ rows rows'. both-same (checks (scan_of a.file r)) (checks (scan_of b.file r)) rows rows' (verdict-same s r);
  equivalent = λ h. all-equivalent _ _ (same-under s r h);
  calls = by-refusal (verdict-same s r) (λ h k. calls (same-under s r h)) (λ f p q e g. calls-refused e g);
}
