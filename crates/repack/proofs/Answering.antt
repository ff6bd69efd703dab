-- How a repack answers: by the file's verdict, answered as v, by refusal 36, by the length of the lent buffer. Assumes nothing.
use Prim.Native.Nat.{ℕ, ◌≤◌, ◌<◌}
use mathlib.Core.Path.{◌≡◌, refl, sym, ap, ◌∙◌}
use mathlib.Core.List.{List, [], ◌∷◌, ◌++◌, append_assoc}
use mathlib.Core.Bool.{Bool, true, false}
use native.Mathlib.Nat.{zero-add}
use native.Mathlib.Omega.{arith}
use lib.ListN.{length}
use lib.Dec.{ltb}
use borrow.Author.Tests.{lt-ltb, le-ltb}
use Rattle.std.specs.Prelude.{Ok, Err}
use Rattle.format.specs.Scan.{Scan, scan_of}
use Rattle.format.specs.Checks.{Verdict, Accepted, Refused, refusal, row, first, and_then}
use Rattle.format.specs.Rules.{checks, verdict}
use Rattle.format.specs.Answers.{VerdictAnswered}
use Rattle.format.specs.declared.Fault.TheVariants as Fault
use Rattle.format.specs.declared.Refusal.{Refusal}
use Rattle.format.specs.declared.Release.{Release}
use Rattle.format.proofs.Firsts.{first-append}
use Rattle.format.proofs.Answering.{verdict-answered, value-refused, value-found}
use Rattle.directory.proofs.Stages.{then-stop, then_next}
use Rattle.judge.proofs.AcceptedFile.{accepted-file}
use Rattle.pack.specs.Put.{put}
use Rattle.repacked.specs.NewFile.{repacked}
use Rattle.repacked.specs.Refusals.{too_large, size_verdict, repack_verdict}
use Rattle.repacked.proofs.Lengths.{kept}
use Rattle.repacked.proofs.Places.{new-length}
use Rattle.repack.specs.Answers.{RepackAnswered, Placed, out_after}
use Rattle.repack.specs.Places.{PlacesAre, RepackRoom}
use Rattle.repack.specs.declared.sizes.Places.{Places}

-- ---- where the new segments stand, of the file bs under the release r

module _ (bs : List ℕ) (r : Release) (v : Verdict) (a : VerdictAnswered (verdict (scan_of bs r)) v) where
  -- it is refused
  pub places-refused : (e : Refusal) → v ≡ Err e → size_verdict (scan_of bs r) ≡ Err e
  unfolding verdict size_verdict
  places-refused e h = sym (then-stop v (checks (scan_of bs r)) _ e a.answer_is h)

  -- it is accepted; b says whether the new file is too large
  module _ (h : v ≡ Accepted) (b : Bool) (g : b ≡ too_large bs) where
    pub places-large : b ≡ true → size_verdict (scan_of bs r) ≡ Refused Fault.RepackTooLarge 0
    unfolding verdict size_verdict
    places-large t = sym (then_next v (Refused Fault.RepackTooLarge 0) (checks (scan_of bs r)) _ a.answer_is h (rw (← g, t)))

    not_large : b ≡ false → size_verdict (scan_of bs r) ≡ Accepted
    unfolding verdict size_verdict
    not_large t = sym (then_next v Accepted (checks (scan_of bs r)) _ a.answer_is h (rw (← g, t)))

    pub placed : (p : Places) → b ≡ false → PlacesAre bs p → Placed (scan_of bs r) p
    placed p t w = record { size = not_large t; accepted = accepted-file bs r v a h; places = w }

-- ---- the refusals of a repack: those of the new file's length, and then 25

repack-then : (sc : Scan) (out : ℕ)
    → repack_verdict sc out ≡ and_then (size_verdict sc) (first (row Fault.RepackBuffer 0 (ltb out (length (repacked sc.file))) ∷ []))
unfolding repack_verdict size_verdict
repack-then sc out =
    let large = row Fault.RepackTooLarge 0 (too_large sc.file) ∷ [] in
    let short = row Fault.RepackBuffer 0 (ltb out (length (repacked sc.file))) ∷ [] in
    ap first (sym (append_assoc (checks sc) large short)) ∙ first-append (checks sc ++ large) short

-- what the buffer u holds in the end
out-kept : (sc : Scan) (u : List ℕ) {e : Refusal} → repack_verdict sc (length u) ≡ Err e → u ≡ out_after sc u
unfolding out_after
out-kept sc u h = rw h

out-put : (sc : Scan) (u v : List ℕ) → repack_verdict sc (length u) ≡ Accepted → v ≡ put u 0 (repacked sc.file) → v ≡ out_after sc u
unfolding out_after put
out-put sc u v h f = rw h (f ∙ rw (zero-add (length (repacked sc.file))))

-- ---- the scan is refused

module _ (sc : Scan) (e : Refusal) (h : size_verdict sc ≡ Err e) where
  pub size-refused : (n : ℕ) → RepackAnswered (size_verdict sc) n (Err e)
  size-refused n = value-refused (verdict-answered (sym h)) refl

  repack-stop : (out : ℕ) → repack_verdict sc out ≡ Err e
  repack-stop out = repack-then sc out ∙ rw h

  pub repack-refused : (out n : ℕ) → RepackAnswered (repack_verdict sc out) n (Err e)
  repack-refused out n = value-refused (verdict-answered (sym (repack-stop out))) refl

  pub refused-kept : (u : List ℕ) → u ≡ out_after sc u
  refused-kept u = out-kept sc u (repack-stop (length u))

-- ---- it is not, and its new segments stand at p

module _ (sc : Scan) (p : Places) (w : Placed sc p) where
  end_is : p.end ≡ length (repacked sc.file)
  end_is = w.places.end ∙ sym (new-length sc.file (kept sc.file w.accepted))

  pub size-done : RepackAnswered (size_verdict sc) (length (repacked sc.file)) (Ok p.end)
  size-done = value-found (verdict-answered (sym w.size)) refl end_is

  module _ (u : List ℕ) where
    -- the buffer is shorter
    module _ (l : length u < p.end) where
      short : repack_verdict sc (length u) ≡ Refused Fault.RepackBuffer 0
      short = repack-then sc (length u) ∙ rw (w.size, lt-ltb (length u) (length (repacked sc.file)) (omega (arith, end_is)))

      pub repack-short : RepackAnswered (repack_verdict sc (length u)) (length (repacked sc.file)) (Err (refusal Fault.RepackBuffer 0))
      repack-short = value-refused (verdict-answered (sym short)) refl

      pub short-kept : u ≡ out_after sc u
      short-kept = out-kept sc u short

    -- it is long enough
    module _ (l : p.end ≤ length u) where
      fits : repack_verdict sc (length u) ≡ Accepted
      fits = repack-then sc (length u) ∙ rw (w.size, le-ltb (length u) (length (repacked sc.file)) (omega (arith, end_is)))

      pub repack-done : RepackAnswered (repack_verdict sc (length u)) (length (repacked sc.file)) (Ok p.end)
      repack-done = value-found (verdict-answered (sym fits)) refl end_is

      pub repack-room : RepackRoom sc.file u p
      repack-room = record { accepted = w.accepted; places = w.places; fits = omega (arith, w.places.end) }

      pub done-put : (out : List ℕ) → out ≡ put u 0 (repacked sc.file) → out ≡ out_after sc u
      done-put out e = out-put sc u out fits e
