-- What the tests of segments tell where they do not refuse, and what holds of every walked segment. Assumes nothing.
use Prim.Native.Nat.{ℕ, zero, suc, ◌+◌, ◌%◌, ◌^◌, ◌≤◌, ◌<◌}
use mathlib.Core.Path.{◌≡◌, refl}
use mathlib.Core.List.{List, [], ◌∷◌}
use mathlib.Core.Bool.{true, false}
use native.Mathlib.Omega.{arith}
use lib.ListN.{length, get_or}
use lib.Dec.{eqb, ltb}
use borrow.Author.Tests.{lt-ltb, le-ltb, ltb-true, ltb-false, eqb-true, eqb-false, not-false}
use Rattle.format.specs.Checks.{first}
use Rattle.format.specs.Segments.{allocated_size, used_size, room, next_segment, length_bad, allocated_bad, used_bad, end_bad, sizes_bad, role_bad}
use Rattle.format.specs.Segments.{segment_rows, walk_rows, walked_from, walked, member, walked_as}
use Rattle.format.specs.WellFormed.{Each, Segment, Names}
use Rattle.format.specs.Checks.{Accepted}
use Rattle.format.proofs.Below.{by_bool, none, and_both}
use Rattle.format.proofs.Firsts.{by-verdict, passed, first-pass}
use Rattle.format.proofs.Members.{member-all, among-member, member-among, each_more}

-- ---- refusal 1 is not given

pub record Whole (bs : List ℕ) : Type 0 where
  pub whole : length bs % 32 ≡ 0
  pub some : 0 < length bs
  pub small : length bs ≤ 2 ^ 40

pub length-ok : (bs : List ℕ) → length_bad bs ≡ false → Whole bs
unfolding length_bad
length-ok bs e =
    let n : length bs ≡ 0 → ⊥ = eqb-false _ _ (none _ e 0) in
    record { whole = eqb-true _ _ (not-false _ (none _ e 1)); some = omega arith; small = ltb-false _ _ (none _ e 2) }

-- ---- refusal 3 is not given

pub record Sized (bs : List ℕ) (p : ℕ) : Type 0 where
  pub whole : allocated_size bs p % 32 ≡ 0
  pub used : used_size bs p ≤ allocated_size bs p
  pub within : next_segment bs p ≤ length bs

pub sizes-ok : (bs : List ℕ) (p : ℕ) → sizes_bad bs p ≡ false → Sized bs p
unfolding sizes_bad allocated_bad used_bad end_bad
sizes-ok bs p e =
    record {
      whole = eqb-true _ _ (not-false _ (none _ (none _ e 0) 1));
      used = ltb-false _ _ (none _ (none _ e 1) 1);
      within = ltb-false _ _ (none _ e 2);
    }

pub next-is : (bs : List ℕ) (p : ℕ) → next_segment bs p ≡ p + 32 + allocated_size bs p
unfolding next_segment
next-is bs p = refl

pub room-allocated : (bs : List ℕ) (p : ℕ) → Sized bs p → room bs p ≤ allocated_size bs p
unfolding room
room-allocated bs p s = by_bool (eqb (used_size bs p) 0) (λ e. rw e (omega arith)) (λ e. rw e s.used)

-- a segment lies in the file, with its room
pub room_within : (bs : List ℕ) (p : ℕ) → Sized bs p → p + 32 + room bs p ≤ length bs
room_within bs p s = omega (arith, next-is bs p, s.within, room-allocated bs p s)

-- ---- refusal 5 is not given to the first segment

pub role-room : (bs : List ℕ) → role_bad bs 0 ≡ false → 80 ≤ room bs 0
unfolding role_bad
role-room bs e = ltb-false _ _ (none _ e 1)

-- ---- a segment's rows

pub segment-ok : (bs : List ℕ) (p : ℕ) → first (segment_rows bs p) ≡ Accepted → Segment bs p
unfolding segment_rows
segment-ok bs p e = let g = passed (segment_rows bs p) e in record { name = g 0; sizes = g 1; role = g 2 }

pub segment-accepted : (bs : List ℕ) (p : ℕ) → Segment bs p → first (segment_rows bs p) ≡ Accepted
unfolding segment_rows
segment-accepted bs p s = rw (s.name, s.sizes, s.role)

-- ---- one turn of the walk

module _ (bs : List ℕ) (p : ℕ) where
  pub walk_end : (n : ℕ) → length bs ≤ p → first (walk_rows n bs p) ≡ Accepted
  unfolding walk_rows
  walk_end zero h = rw (le-ltb p (length bs) h)
  walk_end (suc n) h = rw (le-ltb p (length bs) h)

  pub walk-next : (n : ℕ) → p < length bs → first (segment_rows bs p) ≡ Accepted → first (walk_rows (suc n) bs p) ≡ first (walk_rows n bs (next_segment bs p))
  unfolding walk_rows
  walk-next n h e = rw (lt-ltb p (length bs) h) (first-pass (segment_rows bs p) _ e)

  pub walked_end : (n : ℕ) → length bs ≤ p → walked_from n bs p ≡ []
  unfolding walked_from
  walked_end zero h = refl
  walked_end (suc n) h = rw (le-ltb p (length bs) h)

  pub walked_next : (n : ℕ) → p < length bs → first (segment_rows bs p) ≡ Accepted → walked_from (suc n) bs p ≡ p ∷ walked_from n bs (next_segment bs p)
  unfolding walked_from
  walked_next n h e = rw (lt-ltb p (length bs) h, e)

-- ---- what holds of all walked segments, by one induction

module _ (bs : List ℕ) (P : ℕ → ℕ → List ℕ → Type 0) (stop : (n p : ℕ) → P n p [])
    (more : (n p : ℕ) (l : List ℕ) → p < length bs → Segment bs p → P n (next_segment bs p) l → P (suc n) p (p ∷ l)) where
  pub walked-ind : (n p : ℕ) → P n p (walked_from n bs p)
  unfolding walked_from
  walked-ind zero p = stop zero p
  walked-ind (suc n) p =
      by_bool (ltb p (length bs))
      (λ e. by-verdict (first (segment_rows bs p))
      (λ f. rw (e, f) (more n p _ (ltb-true p (length bs) e) (segment-ok bs p f) (walked-ind n (next_segment bs p))))
      (λ r f. rw (e, f) (stop (suc n) p)))
      (λ e. rw e (stop (suc n) p))

abbrev pub Rising : List ℕ → Type 0
Rising l = (i j : ℕ) → i < j → j < length l → get_or l i 0 < get_or l j 0

-- l are at most n positions from p on: they rise, and each is that of a segment
pub record Places (bs : List ℕ) (n p : ℕ) (l : List ℕ) : Type 0 where
  pub few : length l ≤ n
  pub from : Each (λ q. p ≤ q) l
  pub rising : Rising l
  pub segment : Each (Segment bs) l

no-places : (bs : List ℕ) (n p : ℕ) → Places bs n p []
no-places bs n p =
    record { few = omega arith; from = λ i h. absurd (omega arith); rising = λ i j h k. absurd (omega arith); segment = λ i h. absurd (omega arith) }

more-places : (bs : List ℕ) (n p : ℕ) (l : List ℕ) → p < length bs → Segment bs p → Places bs n (next_segment bs p) l → Places bs (suc n) p (p ∷ l)
more-places bs n p l h s r =
    record {
      few = omega (arith, r.few);
      from = each_more (λ q. p ≤ q) p l (omega arith) (λ i k. omega (arith, later i k));
      rising = rise;
      segment = each_more (Segment bs) p l s r.segment;
    }
  where
    later : (i : ℕ) → i < length l → p < get_or l i 0
    later i k = omega (arith, r.from i k, next-is bs p)

    rise : Rising (p ∷ l)
    rise i zero u k = absurd (omega arith)
    rise zero (suc j) u k = later j (omega arith)
    rise (suc i) (suc j) u k = r.rising i j (omega arith) (omega arith)

pub places-from : (bs : List ℕ) (n p : ℕ) → Places bs n p (walked_from n bs p)
places-from bs = walked-ind bs (Places bs) (no-places bs) (more-places bs)

-- ---- the walked segments of a file

pub walked-places : (bs : List ℕ) → Places bs 8192 0 (walked bs)
unfolding walked
walked-places bs = by_bool (length_bad bs) (λ e. rw e (no-places bs 8192 0)) (λ e. rw e (places-from bs 8192 0))

pub walked-few : (bs : List ℕ) → length (walked bs) ≤ 8192
walked-few bs = (walked-places bs).few

pub walked-rising : (bs : List ℕ) → Rising (walked bs)
walked-rising bs = (walked-places bs).rising

pub walked-segment : (bs : List ℕ) (q : ℕ) → member q (walked bs) ≡ true → Segment bs q
walked-segment bs q e = member-all (Segment bs) (walked bs) q (walked-places bs).segment e

pub walked_sized : (bs : List ℕ) (q : ℕ) → member q (walked bs) ≡ true → Sized bs q
walked_sized bs q e = sizes-ok bs q (walked-segment bs q e).sizes

pub walked-room : (bs : List ℕ) (q : ℕ) (name : List ℕ) → walked_as bs q name ≡ true → q + 32 + room bs q ≤ length bs
unfolding walked_as
walked-room bs q name e = room_within bs q (walked_sized bs q (and_both _ _ e).0)

-- ---- naming a segment

pub names-ok : (bs : List ℕ) (q : ℕ) (name : List ℕ) → walked_as bs q name ≡ true → Names bs (walked bs) q name
unfolding walked_as
names-ok bs q name e = let both = and_both _ _ e in (member-among q (walked bs) both.0, both.1)

pub names-accepted : (bs : List ℕ) (q : ℕ) (name : List ℕ) → Names bs (walked bs) q name → walked_as bs q name ≡ true
unfolding walked_as
names-accepted bs q name n = rw (among-member q (walked bs) n.0, n.1)
