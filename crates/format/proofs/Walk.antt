-- The walk accepts exactly where the walked segments tile the file, and then they are the only ones that do. Assumes nothing.
use Prim.Native.Nat.{ℕ, zero, suc, ◌≤◌, ◌<◌, suc-le-suc, zero-le}
use mathlib.Core.Path.{◌≡◌, refl, ap, ◌∙◌}
use mathlib.Core.List.{List, [], ◌∷◌}
use mathlib.Core.Bool.{false}
use native.Mathlib.Omega.{arith}
use lib.ListN.{length}
use lib.Dec.{ltb}
use borrow.Author.Tests.{ltb-true, ltb-false}
use Rattle.format.specs.Checks.{first}
use Rattle.format.specs.Segments.{next_segment, length_bad, segment_rows, walk_rows, walked_from, walked, segments_rows}
use Rattle.format.specs.WellFormed.{Chain, Each, Segment}
use Rattle.format.specs.Checks.{Accepted}
use Rattle.format.proofs.Firsts.{first-both, first-passed}
use Rattle.format.proofs.Below.{by_bool}
use Rattle.format.proofs.SegmentLaws.{length-ok, sizes-ok, room_within, role-room, walked-places, next-is, segment-ok, segment-accepted}
use Rattle.format.proofs.SegmentLaws.{walk_end, walk-next, walked_end, walked_next}

module _ (bs : List ℕ) where
  -- the walk ends where the file ends: a segment that is not refused lies in it
  pub walk-chain : (n p : ℕ) → p ≤ length bs → first (walk_rows n bs p) ≡ Accepted → Chain (next_segment bs) p (length bs) (walked_from n bs p)
  unfolding walk_rows
  walk-chain zero p h e =
      let l = ltb-false p (length bs) (first-passed (ltb p (length bs)) _ Accepted e).0 in
      rw (walked_end bs p 0 l) (omega arith)
  walk-chain (suc n) p h e =
      by_bool (ltb p (length bs))
      (λ f. let both = first-both (segment_rows bs p) (walk_rows n bs (next_segment bs p)) (rw f at e) in
      rw (walked_next bs p n (ltb-true _ _ f) both.0)
      (refl, walk-chain n (next_segment bs p) (sizes-ok bs p (segment-ok bs p both.0).sizes).within both.1))
      (λ f. let l = ltb-false p (length bs) f in rw (walked_end bs p (suc n) l) (omega arith))

  -- at most n segments that tile the file from p on are the walked ones
  pub chain-walk : (l : List ℕ) (n p : ℕ) → Chain (next_segment bs) p (length bs) l → Each (Segment bs) l → length l ≤ n
      → (first (walk_rows n bs p) ≡ Accepted) × (walked_from n bs p ≡ l)
  chain-walk [] n p c s h = (walk_end bs p n (omega arith), walked_end bs p n (omega arith))
  chain-walk (q ∷ l) zero p c s h = absurd (omega arith)
  chain-walk (q ∷ l) (suc n) p c s h =
      let ih = chain-walk l n (next_segment bs q) c.1 (λ i k. s (suc i) (suc-le-suc k)) (omega arith) in
      let t = s 0 (suc-le-suc zero-le) in
      let a = segment-accepted bs q t in
      let k : q < length bs = omega (arith, next-is bs q, (sizes-ok bs q t.sizes).within) in
      rw (← c.0) (walk-next bs q n k a ∙ ih.0, walked_next bs q n k a ∙ ap (λ m. q ∷ m) ih.1)

  -- ---- the same of the whole file

  pub segments-chain : first (segments_rows bs) ≡ Accepted → (length_bad bs ≡ false) × Chain (next_segment bs) 0 (length bs) (walked bs)
  unfolding segments_rows walked
  segments-chain e =
      let f = first-passed (length_bad bs) _ (first (walk_rows 8192 bs 0)) e in
      (f.0, rw f.0 (walk-chain 8192 0 zero-le f.1))

  pub chain-segments : (l : List ℕ) → length_bad bs ≡ false → Chain (next_segment bs) 0 (length bs) l → Each (Segment bs) l → length l ≤ 8192
      → (first (segments_rows bs) ≡ Accepted) × (walked bs ≡ l)
  unfolding segments_rows walked
  chain-segments l e c s h = rw e (chain-walk l 8192 0 c s h)

  -- such a file has the file segment with its fixed part
  pub file-long : first (segments_rows bs) ≡ Accepted → 112 ≤ length bs
  file-long e = go (walked bs) c.1 (walked-places bs).segment
    where
      c : (length_bad bs ≡ false) × Chain (next_segment bs) 0 (length bs) (walked bs)
      c = segments-chain e

      go : (l : List ℕ) → Chain (next_segment bs) 0 (length bs) l → Each (Segment bs) l → 112 ≤ length bs
      go [] f s = absurd (omega (arith, f, (length-ok bs c.0).some))
      go (q ∷ l) f s =
          let t : Segment bs 0 = rw f.0 at (s 0 (suc-le-suc zero-le)) in
          omega (arith, room_within bs 0 (sizes-ok bs 0 t.sizes), role-room bs t.role)
