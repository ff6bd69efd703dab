-- The invariant of the walk's loop, and what an accepted walk tells. Assumes nothing.
use Prim.Native.Nat.{ℕ, suc, ◌+◌, ◌-◌, ◌%◌, ◌^◌, ◌≤◌, ◌<◌}
use mathlib.Core.Path.{◌≡◌, refl, sym, ap, ◌∙◌}
use mathlib.Core.List.{List, [], ◌∷◌, ◌++◌, append_assoc, append-nil}
use native.Mathlib.Omega.{arith}
use native.Mathlib.Nat.{sub-zero}
use native.Mathlib.Numerals.{add-one}
use lib.ListN.{length, take, drop, set, length-set, length-append, length-drop, take-append-drop}
use lib.Seq.{take-suc-set, drop-set-lt, drop-drop, length-take-le, take-append_seam}
use borrow.Author.Tests.{lt-ltb}
use Rattle.std.specs.Prelude.{Result, Ok, Err}
use Rattle.format.specs.Checks.{Verdict, Accepted, Refused, refusal, answer_if, first}
use Rattle.format.specs.Segments.{allocated_size, next_segment, length_bad, segment_rows, walk_rows, walked_from, walked, segments_rows}
use Rattle.format.specs.declared.Fault.TheVariants as Fault
use Rattle.format.specs.declared.Refusal.{Refusal}
use Rattle.format.proofs.Firsts.{first-passed, first-stop}
use Rattle.format.proofs.SegmentLaws.{sizes-ok, length-ok, next-is, segment-ok, walk-next, walked_next, walk_end, walked_end, walked-few}
use Rattle.segments.specs.Walk.{WalkAnswered}

-- ---- one turn of the walk, where it stops

module _ (bs : List ℕ) (p : ℕ) (h : p < length bs) where
  walk-full : first (walk_rows 0 bs p) ≡ Refused Fault.SegmentCount p
  unfolding walk_rows
  walk-full = rw (lt-ltb p (length bs) h)

  walk-stop : (n : ℕ) (r : Refusal) → first (segment_rows bs p) ≡ Err r → first (walk_rows (suc n) bs p) ≡ Err r
  unfolding walk_rows
  walk-stop n r e = rw (lt-ltb p (length bs) h) (first-stop (segment_rows bs p) _ r e)

  walked_stop : (n : ℕ) (r : Refusal) → first (segment_rows bs p) ≡ Err r → walked_from (suc n) bs p ≡ []
  unfolding walked_from
  walked_stop n r e = rw (lt-ltb p (length bs) h, e)

walked-full : (bs : List ℕ) (p : ℕ) → walked_from 0 bs p ≡ []
unfolding walked_from
walked-full bs p = refl

-- a segment that is not refused, and its AllocatedSize a: it lies in the file
pub segment-in : (bs : List ℕ) (p : ℕ) (v : Verdict) (a : ℕ) → v ≡ first (segment_rows bs p) → v ≡ Accepted → a ≡ allocated_size bs p → p + 32 + a ≤ length bs
segment-in bs p v a j f i = omega (arith, (sizes-ok bs p (segment-ok bs p (sym j ∙ f)).sizes).within, next-is bs p)

-- ---- the loop's invariant: k segments are walked and in the table, and the walk goes on at p

pub record Walking (bs before : List ℕ) (n len : ℕ) (table : List ℕ) (p k : ℕ) : Type 0 where
  pub len_is : len ≡ length bs
  pub few : k ≤ n
  pub size : length table ≡ n
  pub at : p ≤ length bs
  pub whole : p % 32 ≡ 0
  pub verdict : first (walk_rows n bs 0) ≡ first (walk_rows (n - k) bs p)
  pub passed : walked_from n bs 0 ≡ take k table ++ walked_from (n - k) bs p
  pub rest : drop k table ≡ drop k before

pub walking_start : (bs t : List ℕ) (n : ℕ) → length t ≡ n → Walking bs t n (length bs) t 0 0
walking_start bs t n e =
    record { len_is = refl; few = omega arith; size = e; at = omega arith; whole = refl; verdict = rw sub-zero; passed = rw sub-zero; rest = refl }

-- what the function answers
abbrev Answer : List ℕ → List ℕ → ℕ → List ℕ → Result ℕ Refusal → Type 0
Answer bs before n t r = WalkAnswered (first (walk_rows n bs 0)) (walked_from n bs 0) before t r

module _ (bs before : List ℕ) (n len : ℕ) (t : List ℕ) (p k : ℕ) (w : Walking bs before n len t p k) where
  -- the walk is over: the table has the positions, and then what it had before
  walked-count : walked_from (n - k) bs p ≡ [] → length (walked_from n bs 0) ≡ k
  walked-count e = rw (w.passed, e, append-nil (take k t)) (length-take-le k t (omega (arith, w.size, w.few)))

  walked-table : walked_from (n - k) bs p ≡ [] → t ≡ walked_from n bs 0 ++ drop (length (walked_from n bs 0)) before
  walked-table e = rw (walked-count e, w.passed, e, append-nil (take k t), ← w.rest, take-append-drop k t)

  refused : (r : Refusal) → first (walk_rows (n - k) bs p) ≡ Err r → walked_from (n - k) bs p ≡ [] → Answer bs before n t (Err r)
  refused r v e = record { answer_is = rw (w.verdict ∙ v); table_is = walked-table e }

  pub turn-full : p < len → k ≡ n → Answer bs before n t (Err (refusal Fault.SegmentCount p))
  turn-full h l =
      let f : n - k ≡ 0 = omega arith in
      refused (refusal Fault.SegmentCount p) (rw f (walk-full bs p (omega arith))) (rw f (walked-full bs p))

  pub turn_end : len ≤ p → Answer bs before n t (Ok k)
  turn_end h =
      let v = walk_end bs p (n - k) (omega arith) in
      let e = walked_end bs p (n - k) (omega arith) in
      record { answer_is = rw (w.verdict ∙ v) (ap (λ (c : ℕ). Ok c) (sym (walked-count e))); table_is = walked-table e }

  -- the segment at p is judged: v
  module _ (h : p < len) (l : k ≡ n → ⊥) (v : Verdict) (j : v ≡ first (segment_rows bs p)) where
    less : n - k ≡ suc (n - (k + 1))
    less = omega (arith, w.few)

    pub turn-stop : (r : Refusal) → v ≡ Err r → Answer bs before n t (Err r)
    turn-stop r f =
        let e = sym j ∙ f in
        refused r (rw less (walk-stop bs p (omega arith) (n - (k + 1)) r e)) (rw less (walked_stop bs p (omega arith) (n - (k + 1)) r e))

    -- it is not refused, and its AllocatedSize is a
    module _ (f : v ≡ Accepted) (a : ℕ) (i : a ≡ allocated_size bs p) where
      pub turn-next : Walking bs before n len (set t k p) (p + 32 + a) (k + 1)
      turn-next =
          let e = sym j ∙ f in
          let s = sizes-ok bs p (segment-ok bs p e).sizes in
          let g : p < length bs = omega arith in
          let q : p + 32 + a ≡ next_segment bs p = omega (arith, next-is bs p) in
          let c = sym (append_assoc (take k t) (p ∷ []) (walked_from (n - suc k) bs (next_segment bs p))) in
          rw q
          (record {
            len_is = w.len_is;
            few = omega arith;
            size = length-set t k p ∙ w.size;
            at = s.within;
            whole = omega (arith, s.whole, w.whole, next-is bs p);
            verdict = w.verdict ∙ rw less (walk-next bs p (n - (k + 1)) g e);
            passed = w.passed ∙ rw (less, walked_next bs p (n - (k + 1)) g e, add-one k, take-suc-set t k p (omega (arith, w.size))) c;
            rest = drop-set-lt (k + 1) t k p (omega arith) ∙ (sym (drop-drop 1 k t) ∙ (ap (drop 1) w.rest ∙ drop-drop 1 k before));
          })

-- ---- what an accepted walk tells

-- by its verdict v: that of the file's segments, as far as its own
answered-ok : (v : Verdict) (x : ℕ) {n : ℕ} → Ok n ≡ answer_if v x → (v ≡ Accepted) × (n ≡ x)
answered-ok (Ok _) x e = (refl, cc)
answered-ok (Err r) x e = let z : ◌≡◌ {A = ℕ} 0 1 = cc in absurd (omega arith)

answered-err : (v : Verdict) (x : ℕ) {r : Refusal} → Err r ≡ answer_if v x → v ≡ Err r
answered-err (Ok _) x e = let z : ◌≡◌ {A = ℕ} 0 1 = cc in absurd (omega arith)
answered-err (Err s) x e = cc

module _ (bs before after : List ℕ) (w : Result ℕ Refusal) (a : WalkAnswered (first (segments_rows bs)) (walked bs) before after w) where
  pub walk-stops : (r : Refusal) → w ≡ Err r → Err r ≡ first (segments_rows bs)
  walk-stops r e = sym (answered-err (first (segments_rows bs)) _ (sym e ∙ a.answer_is))

  module _ (n : ℕ) (e : w ≡ Ok n) where
    pub walk-passes : Accepted ≡ first (segments_rows bs)
    walk-passes = sym (answered-ok (first (segments_rows bs)) _ (sym e ∙ a.answer_is)).0

    walk-count : n ≡ length (walked bs)
    walk-count = (answered-ok (first (segments_rows bs)) _ (sym e ∙ a.answer_is)).1

    -- its table holds the walked positions
    pub filled : take n after ≡ walked bs
    filled = rw (walk-count, a.table_is) (take-append_seam (walked bs) _)

-- the file's positions are small; `file-long` of the format says that it has the fixed part of the file segment
pub file-small : (bs : List ℕ) → first (segments_rows bs) ≡ Accepted → length bs ≤ 2 ^ 40
unfolding segments_rows
file-small bs e = (length-ok bs (first-passed (length_bad bs) _ (first (walk_rows 8192 bs 0)) e).0).small
