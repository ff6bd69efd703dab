-- A call of two scans that say the same: the same refusal number or none, and the same plane. Assumes nothing.
use Prim.Native.Nat.{ℕ, ◌<◌}
use mathlib.Core.Path.{◌≡◌, refl, sym, ap, ◌∙◌}
use mathlib.Core.List.{List}
use mathlib.Core.Bool.{Bool, true, false, cond, true≢false}
use native.Mathlib.Omega.{arith}
use lib.ListN.{length}
use borrow.Author.Tests.{eqb-true, not-false}
use Rattle.format.specs.Scan.{Scan}
use Rattle.std.specs.Prelude.{Err}
use Rattle.format.specs.Checks.{Verdict, Accepted, Refused, first, number_of, if_accepted, answer_if, verdict_in}
use Rattle.format.specs.Entry.{pixel_type, pixel_bytes, dimensions_bad, is_pyramid}
use Rattle.format.specs.Directory.{tile_count}
use Rattle.format.specs.Records.{tile_entry}
use Rattle.format.specs.Rules.{checks, verdict}
use Rattle.format.specs.declared.Fault.{Fault}
use Rattle.format.specs.declared.Refusal.{Refusal}
use Rattle.format.proofs.Below.{by_bool}
use Rattle.format.proofs.Firsts.{first-stop}
use Rattle.judge.proofs.AcceptedFile.{tiled}
use Rattle.plane.specs.Paint.{ones}
use Rattle.plane.specs.Tiles.{area}
use Rattle.plane.specs.Turns.{Painting, Kind}
use Rattle.plane.specs.declared.Rect.{Rect}
use Rattle.selection.specs.Select.{selects}
use Rattle.selection.proofs.Starts.{selected-layer}
use Rattle.tiles.specs.FileTile.{rectangle, meets, file_tile}
use Rattle.question.specs.Question.{masks_on, request_window, ask_rows, type_bad, agree_row, agree_rows}
use Rattle.question.specs.Call.{Asked, choice_of, chosen, call_verdict, asked_window, asked_bytes, selected, painted}
use Rattle.question.specs.Call.{answer, target_after, map_after, covered_in, stored_in}
use Rattle.question.specs.declared.Counts.{Counts}
use Rattle.question.proofs.Accepts.{call_ok}
use Rattle.question.proofs.Calls.{room}
use Rattle.equivalent.specs.Same.{SameScans}
use Rattle.equivalent.specs.Claims.{SameRefusal, accepted, refused, asked_of, SameButPlaces}
use Rattle.equivalent.proofs.Refusals.{refusal-self, both-accepted, row_same, both-same, below-same}
use Rattle.equivalent.proofs.Entries.{type-same, rectangle-same, selects-same, asked-layer-same}
use Rattle.equivalent.proofs.Records.{tiles-same}
use Rattle.plane.proofs.Alike.{Alike, AlikeAll, compose-alike}
use Rattle.equivalent.proofs.Tiles.{tile-alike, tiles-alike}

-- ---- a call's refusals

-- the dimensions of entry k are right
right : {a b : Scan} → SameScans a b → (k : ℕ) → k < tile_count a.file → dimensions_bad a.file (tile_entry a k) ≡ false
right {a} s k h = ((tiled a s.accepted).tile k h).filled.agreed.placed.listed.dimensions

module _ {a b : Scan} (s : SameScans a b) (q : Asked) where
  same_chosen : (k : ℕ) → k < tile_count a.file → chosen (asked_of a q) k ≡ chosen (asked_of b q) k
  same_chosen k h = selects-same (s.entry k h) (right s k h) q.starts q.any_scene

  same-type : (w : Rect) (t k : ℕ) → k < tile_count a.file → type_bad a.file w t (tile_entry a k) ≡ type_bad b.file w t (tile_entry b k)
  unfolding type_bad
  same-type w t k h = rw (rectangle-same (s.entry k h) (right s k h), type-same (s.entry k h))

  agree_same : (w : Rect) (t : ℕ)
      → SameRefusal (first (agree_rows a.file (chosen (asked_of a q)) w t)) (first (agree_rows b.file (chosen (asked_of b q)) w t))
  unfolding agree_rows
  agree_same w t =
      rw (← tiles-same a b s)
      (below-same (tile_count a.file) (agree_row a.file (chosen (asked_of a q)) w t) (agree_row b.file (chosen (asked_of b q)) w t)
      (λ k h. row_same Fault.TileType (tile_entry a k) (tile_entry b k) _ _ (given k h)))
    where
      given : (k : ℕ) → k < tile_count a.file
          → cond (chosen (asked_of a q) k) (type_bad a.file w t (tile_entry a k)) false
          ≡ cond (chosen (asked_of b q) k) (type_bad b.file w t (tile_entry b k)) false
      given k h = rw (same_chosen k h, same-type w t k h)

  file-same : SameRefusal (first (checks a)) (first (checks b))
  unfolding verdict
  file-same = both-accepted s.accepted s.accepted-too

  call_same : (target map : ℕ) → SameRefusal (call_verdict (asked_of a q) target map) (call_verdict (asked_of b q) target map)
  unfolding call_verdict
  call_same target map =
      let asks = ask_rows q.request q.background target map in
      both-same (checks a) (checks b) _ _ file-same
      (both-same asks asks _ _ (refusal-self (first asks)) (agree_same (request_window q.request) q.request.pixel_type))

-- ---- the plane of an accepted call

-- a chosen tile is no pyramid tile
chosen-whole : (bs : List ℕ) (e : ℕ) (t : Bool) → cond (is_pyramid bs e) false t ≡ true → is_pyramid bs e ≡ false
chosen-whole bs e t h = by_bool (is_pyramid bs e) (λ o. absurd (true≢false (sym h ∙ rw o))) (λ o. o)

-- a chosen tile that meets the window has the asked type
chosen-type : (bs : List ℕ) (w : Rect) (t e : ℕ) (c : Bool) → c ≡ true → cond c (type_bad bs w t e) false ≡ false → meets (rectangle bs e) w ≡ true
    → pixel_type bs e ≡ t
unfolding type_bad
chosen-type bs w t e c o h m = eqb-true (pixel_type bs e) t (not-false _ (rw (o, m) at h))

module _ {a b : Scan} (s : SameScans a b) (q : Asked) (t m : List ℕ) (v : call_verdict (asked_of a q) (length t) (length m) ≡ Accepted) where
  entry-alike : (k : ℕ) → k < tile_count a.file → chosen (asked_of a q) k ≡ true
      → Alike (asked_window q) (asked_bytes q) (file_tile (choice_of (asked_of a q)) k) (file_tile (choice_of (asked_of b q)) k)
  unfolding file_tile selects
  entry-alike k h o =
      let agrees = (call_ok (asked_of a q) (length t) (length m) v).agree k h in
      let e = s.entry k h in
      let layer = selected-layer a.file q.starts q.any_scene (tile_entry a k) (right s k h) o in
      rw (← s.release, ← asked-layer-same e q.starts)
      (tile-alike e (s.block k h) ((tiled a s.accepted).tile k h) (masks_on q.request.masks) _ layer.below k
      (chosen-whole a.file (tile_entry a k) _ o)
      (asked_window q) (asked_bytes q) (room (asked_of a q) t m v).wide
      (λ i. ap pixel_bytes (chosen-type a.file (asked_window q) q.request.pixel_type (tile_entry a k) _ o agrees i)))

  selected-alike : AlikeAll (asked_window q) (asked_bytes q) (selected (asked_of a q)) (selected (asked_of b q))
  unfolding selected
  selected-alike =
      rw (← tiles-same a b s)
      (tiles-alike (asked_window q) (asked_bytes q) (choice_of (asked_of a q)) (choice_of (asked_of b q)) (chosen (asked_of a q)) (chosen (asked_of b q))
      (tile_count a.file) (same_chosen s q) entry-alike)

  painted_same : (k : Kind) → painted k (asked_of a q) t m ≡ painted k (asked_of b q) t m
  painted_same k =
      compose-alike (asked_window q) (asked_bytes q) (room (asked_of a q) t m v).bytes k q.background selected-alike t m

-- ---- all of it

-- what two verdicts of the same number leave of values that are the same where they accept
if-same : {A : Type 0} {v v' : Verdict} {x x' : A} (y : A) → SameRefusal v v' → (v ≡ Accepted → x ≡ x') → if_accepted v x y ≡ if_accepted v' x' y
if-same y accepted e = e refl
if-same y refused e = refl

number_same : {v v' : Verdict} (c c' : Counts) → SameRefusal v v' → number_of (verdict_in (answer_if v c)) ≡ number_of (verdict_in (answer_if v' c'))
number_same c c' accepted = refl
number_same c c' refused = refl

counts_same : {v v' : Verdict} {c c' : Counts} → SameRefusal v v' → (v ≡ Accepted → (c.covered ≡ c'.covered) × (c.stored ≡ c'.stored))
    → (covered_in (answer_if v c) ≡ covered_in (answer_if v' c')) × (stored_in (answer_if v c) ≡ stored_in (answer_if v' c'))
counts_same accepted e = e refl
counts_same refused e = (refl, refl)

-- of two scans whose call has verdicts of the same number, and the same plane where it is accepted
module _ (a b : Scan) (q : Asked)
    (v : (target map : ℕ) → SameRefusal (call_verdict (asked_of a q) target map) (call_verdict (asked_of b q) target map))
    (plane : (k : Kind) (t m : List ℕ) → call_verdict (asked_of a q) (length t) (length m) ≡ Accepted → painted k (asked_of a q) t m ≡ painted k (asked_of b q) t m)
  where
    counts : (k : Kind) (t m : List ℕ)
        → (covered_in (answer k (asked_of a q) t m) ≡ covered_in (answer k (asked_of b q) t m))
        × (stored_in (answer k (asked_of a q) t m) ≡ stored_in (answer k (asked_of b q) t m))
    unfolding answer
    counts k t m =
        counts_same (v (length t) (length m))
        (λ o. let e = plane k t m o in (ap (λ (x : Painting). ones (area (asked_window q)) x.map) e, ap (λ (x : Painting). x.stored) e))

    pub calls_by : SameButPlaces (asked_of a q) (asked_of b q)
    unfolding answer target_after map_after
    calls_by = record {
      number = λ k t m. number_same _ _ (v (length t) (length m));
      covered = λ k t m. (counts k t m).0;
      stored = λ k t m. (counts k t m).1;
      target = λ k t m. if-same t (v (length t) (length m)) (λ o. ap (λ (x : Painting). x.target) (plane k t m o));
      map = λ k t m. if-same m (v (length t) (length m)) (λ o. ap (λ (x : Painting). x.map) (plane k t m o));
    }

pub calls : {a b : Scan} → SameScans a b → (q : Asked) → SameButPlaces (asked_of a q) (asked_of b q)
calls {a} {b} s q = calls_by a b q (call_same s q) (λ k t m v. painted_same s q t m v k)

-- ---- where both files are refused, by the same number

call-refused : (a : Scan) (r : Refusal) → verdict a ≡ Err r → (q : Asked) (target map : ℕ) → call_verdict (asked_of a q) target map ≡ Err r
unfolding verdict call_verdict
call-refused a r e q target map = first-stop (checks a) _ r e

pub calls-refused : {a b : Scan} {f : Fault} {p r : ℕ} → verdict a ≡ Refused f p → verdict b ≡ Refused f r → (q : Asked) → SameButPlaces (asked_of a q) (asked_of b q)
calls-refused {a} {b} {f} {p} {r} e g q =
    calls_by a b q (λ target map. rw (call-refused a _ e q target map, call-refused b _ g q target map) refused)
    (λ k t m v. let c = call-refused a _ e q (length t) (length m) in let z : ◌≡◌ {A = ℕ} 0 1 = cc in absurd (omega arith))
