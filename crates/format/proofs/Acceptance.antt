-- A file is accepted exactly when it is well formed (demand 2). Assumes nothing.
use mathlib.Core.Path.{◌≡◌}
use mathlib.Core.Logic.{◌↔◌}
use borrow.Author.Tests.{eq-eqb, eqb-true, not-false}
use Rattle.format.specs.Checks.{first}
use Rattle.format.specs.Scan.{Scan}
use Rattle.format.specs.Segments.{walked, segments_rows}
use Rattle.format.specs.File.{directory_position, names_none, file_rows}
use Rattle.format.specs.Names.{name_directory}
use Rattle.format.specs.Directory.{directory_rows}
use Rattle.format.specs.Attachments.{metadata_rows, attachments_rows}
use Rattle.format.specs.Rules.{checks, verdict}
use Rattle.format.specs.WellFormed.{WellFormed}
use Rattle.format.specs.Checks.{Accepted}
use Rattle.format.proofs.Firsts.{first-append, first-both, passed}
use Rattle.format.proofs.SegmentLaws.{walked-places, names-ok, names-accepted}
use Rattle.format.proofs.Walk.{segments-chain, chain-segments}
use Rattle.format.proofs.FileRows.{directory-ok, directory-accepted}
use Rattle.format.proofs.FileRows.{metadata-ok, metadata-accepted, attachments-ok, attachments-accepted}

-- the five parts of the rules
pub record Parts (sc : Scan) : Type 0 where
  pub segments : first (segments_rows sc.file) ≡ Accepted
  pub file : first (file_rows sc.file) ≡ Accepted
  pub directory : first (directory_rows sc) ≡ Accepted
  pub metadata : first (metadata_rows sc.file) ≡ Accepted
  pub attachments : first (attachments_rows sc.file) ≡ Accepted

pub verdict-parts : (sc : Scan) → verdict sc ≡ Accepted → Parts sc
unfolding verdict checks
verdict-parts sc e =
    let a = first-both (segments_rows sc.file) _ e in
    let b = first-both (file_rows sc.file) _ a.1 in
    let c = first-both (directory_rows sc) _ b.1 in
    let d = first-both (metadata_rows sc.file) _ c.1 in
    record { segments = a.0; file = b.0; directory = c.0; metadata = d.0; attachments = d.1 }

pub parts-verdict : (sc : Scan) → Parts sc → verdict sc ≡ Accepted
unfolding verdict checks
parts-verdict sc p = simp (first-append, p.segments, p.file, p.directory, p.metadata) p.attachments

well-formed : (sc : Scan) → Parts sc → WellFormed sc
unfolding file_rows names_none
well-formed sc p =
    let c = segments-chain sc.file p.segments in
    let w = walked-places sc.file in
    let g = passed (file_rows sc.file) p.file in
    let d = directory-ok sc p.directory in
    record {
      length-right = c.0;
      segments = walked sc.file;
      tile = c.1;
      few = w.few;
      segment = w.segment;
      major_right = eqb-true _ _ (not-false _ (g 0));
      part = eqb-true _ _ (not-false _ (g 1));
      settled = eqb-true _ _ (not-false _ (g 2));
      names_directory = names-ok sc.file _ _ (not-false _ (g 3));
      directory = d.0;
      entries = d.1;
      metadata = metadata-ok sc.file (g 4) p.metadata;
      attachments = attachments-ok sc.file (g 5) p.attachments;
    }

-- the segments of a well-formed file are the walked ones
pub segments-walked : (sc : Scan) (w : WellFormed sc) → walked sc.file ≡ w.segments
segments-walked sc w = (chain-segments sc.file w.segments w.length-right w.tile w.segment w.few).1

parts : (sc : Scan) → WellFormed sc → Parts sc
unfolding file_rows names_none
parts sc w =
    let e = segments-walked sc w in
    let n = names-accepted sc.file (directory_position sc.file) name_directory (rw e w.names_directory) in
    let m = metadata-accepted sc.file (rw e w.metadata) in
    let a = attachments-accepted sc.file (rw e w.attachments) in
    record {
      segments = (chain-segments sc.file w.segments w.length-right w.tile w.segment w.few).0;
      file = rw (eq-eqb _ _ w.major_right, eq-eqb _ _ w.part, eq-eqb _ _ w.settled, n, m.0, a.0);
      directory = directory-accepted sc w.directory (rw e w.entries);
      metadata = m.1;
      attachments = a.1;
    }

-- demand 2: a file is accepted exactly when it is well formed
pub accepted-iff : (sc : Scan) → (verdict sc ≡ Accepted) ↔ WellFormed sc
accepted-iff sc = (λ e. well-formed sc (verdict-parts sc e), λ w. parts-verdict sc (parts sc w))
