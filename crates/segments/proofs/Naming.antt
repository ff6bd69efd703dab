-- The index of the walked segment that a position names, by a search among the walked positions. Assumes nothing.
use Prim.Native.Nat.{ℕ, ◌+◌, ◌≤◌, ◌<◌}
use mathlib.Core.Path.{◌≡◌, refl, sym, ap, ◌∙◌}
use mathlib.Core.List.{List}
use mathlib.Core.Bool.{Bool, true, false, cond, and-false}
use native.Mathlib.Omega.{arith}
use lib.ListN.{length, get_or}
use Rattle.std.specs.Prelude.{Option, Some, None, is_some, Result, Ok, Err}
use Rattle.std.specs.List.Sorted.{IsBinarySearchResult}
use Rattle.std.specs.Ordering.{nat_cmp}
use Rattle.std.specs.Result.{MatchResult}
use Rattle.std.proofs.lemmas.List.Sorted.{searched}
use Rattle.std.proofs.lemmas.Result.{MatchResult-at_ok, MatchResult-at_err}
use Rattle.format.specs.Bytes.{same_at}
use Rattle.format.specs.Segments.{walked, member, walked_as}
use Rattle.format.proofs.Below.{and_both, by_bool}
use Rattle.format.proofs.SegmentLaws.{next-is, walked_sized, walked-rising}
use Rattle.segments.specs.Walk.{index_in, index_as}
use Rattle.segments.proofs.Search.{index-member, member-index, index-found, member-missed, not-falling}

-- ---- k is where the search among the walked positions found q

module _ (bs : List ℕ) (q : ℕ) (r : Result ℕ ℕ) (h : IsBinarySearchResult (λ y. nat_cmp y q) (walked bs) r) where
  among : MatchResult r (λ i. (i < length (walked bs)) × (get_or (walked bs) i 0 ≡ q))
      (λ i. (i ≤ length (walked bs)) × ((k : ℕ) → k < i → get_or (walked bs) k 0 < q) × ((k : ℕ) → i ≤ k → k < length (walked bs) → q < get_or (walked bs) k 0))
  among = searched (walked bs) q r h (not-falling (walked bs) q (walked-rising bs))

  -- it is nowhere
  pub missed : (i : ℕ) (name : List ℕ) → r ≡ Err i → None ≡ index_as bs q name
  unfolding index_as walked_as
  missed i name e = let m = member-missed (walked bs) q (walked-rising bs) i (MatchResult-at_err _ _ i e among) in rw m

  module _ (k : ℕ) (e : r ≡ Ok k) where
    index_is : index_in q (walked bs) ≡ k
    index_is = index-found (walked bs) q (walked-rising bs) k (MatchResult-at_ok _ _ k e among)

    found : member q (walked bs) ≡ true
    found =
        let f = MatchResult-at_ok _ _ k e among in
        member-index (walked bs) q (λ n. omega (arith, index_is, f.0))

    -- the name of the segment at q lies in the file
    pub found_in : q + 16 ≤ length bs
    found_in = omega (arith, next-is bs q, (walked_sized bs q found).within)

    -- t is whether it is of the kind that has that name
    module _ (name : List ℕ) (t : Bool) (i : t ≡ same_at bs q name) where
      pub of-kind : t ≡ true → Some k ≡ index_as bs q name
      unfolding index_as walked_as
      of-kind j = rw (found, sym i ∙ j, index_is)

      pub of_other : t ≡ false → None ≡ index_as bs q name
      unfolding index_as walked_as
      of_other j = rw (sym i ∙ j, and-false (member q (walked bs)))

-- ---- what the index of a named segment tells

module _ (bs : List ℕ) (q : ℕ) (name : List ℕ) where
  -- whether a segment is named
  pub some-named : is_some (index_as bs q name) ≡ walked_as bs q name
  unfolding index_as
  some-named = by_bool (walked_as bs q name) (λ e. rw e) (λ e. rw e)

  -- a segment that is named stands at its index
  pub record Named (k : ℕ) : Type 0 where
    pub below : k < length (walked bs)
    pub stands : get_or (walked bs) k 0 ≡ q

  pub named : (k : ℕ) → Some k ≡ index_as bs q name → Named k
  unfolding index_as walked_as
  named k e =
      by_bool (walked_as bs q name)
      (λ w.
      let n = index-member (walked bs) q (and_both _ _ w).0 in
      let i : k ≡ index_in q (walked bs) = let g = rw w at e in cc in
      record { below = rw i n.below; stands = rw i n.stands })
      (λ w. let g = rw w at e in let z : ◌≡◌ {A = ℕ} 0 1 = cc in absurd (omega arith))
