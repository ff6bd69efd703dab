-- All that is claimed of the new file of a scan that a repack does not refuse. Assumes nothing.
use mathlib.Core.Path.{◌≡◌, sym, ◌∙◌}
use mathlib.Core.List.{List}
use Prim.Native.Nat.{ℕ}
use native.Mathlib.Omega.{arith}
use Rattle.format.specs.Segments.{used_size}
use Rattle.equivalent.proofs.Equivalence.{all-equivalent}
use Rattle.equivalent.proofs.Releases.{any-release}
use Rattle.pack.specs.Pack.{places_from}
use Rattle.pack.proofs.Tiling.{Tiles, all_named}
use Rattle.repacked.specs.NewFile.{new_segments, repacked, repacked_scan}
use Rattle.repacked.specs.Claims.{AllRepacks}
use Rattle.repacked.proofs.Lengths.{Kept, file-content}
use Rattle.repacked.proofs.Listed.{scan-tiles, new-written, segments-listed}
use Rattle.repacked.proofs.WellFormedNew.{all-kept, new-accepted, new-same, new-positions}
use Rattle.repacked.proofs.Named.{places-named}
use Rattle.repacked.proofs.Again.{only-said, size-refusal-same, refusal-same}

-- UsedSize of the file segment, which is segment 0
file-used : (bs : List ℕ) → Kept bs → Tiles (new_segments bs) → used_size (repacked bs) 0 ≡ 512
unfolding new_segments places_from
file-used bs h t = (new-written bs t 0 (omega arith)).used ∙ file-content bs h

pub all-repacks : AllRepacks
all-repacks sc e =
    let new = repacked_scan sc in
    let same = new-same sc e in
    let at = new-positions sc e in
    let tiles = scan-tiles sc e in
    record {
      accepted = new-accepted sc e;
      same = same;
      equivalent = all-equivalent sc new same;
      any-release = any-release sc new same;
      segments = segments-listed sc e;
      written = new-written sc.file tiles;
      file-used = file-used sc.file (all-kept sc e) tiles;
      positions = at;
      named = segments-listed sc e ∙ places-named sc (all-kept sc e) (all_named (new_segments sc.file) tiles.ordered) same at;
      again_accepted = sym (size-refusal-same sc new same) ∙ e;
      again_verdict = λ out. sym (refusal-same sc new same out);
      again = sym (only-said sc new same);
    }
