-- The dimensions of an entry are not refused exactly where they are right, and exactly by paper 01's rule where none has layers. Assumes nothing.
use Prim.Native.Nat.{ℕ, ◌+◌, ◌^◌, ◌<◌}
use mathlib.Core.Path.{◌≡◌, sym}
use mathlib.Core.List.{List}
use mathlib.Core.Bool.{true, false, true≢false}
use native.Mathlib.Omega.{arith}
use lib.Dec.{eqb}
use borrow.Author.Tests.{le-ltb, lt-leb, eq-eqb, ne_eqb, ltb-false, leb-false, eqb-true, not-false}
use Rattle.format.specs.Bytes.{any_of, any_below, least_below, biased}
use Rattle.format.specs.Entry.{dimension_count, dimension_place, dimension_bad, letter_bad, too_far}
use Rattle.format.specs.Entry.{has_letter, repeats, closes_plane, layers_bad, dimensions_bad}
use Rattle.format.proofs.Below.{by_bool, none, any_found, any_none, any-intro, least-is}
use Rattle.entries.proofs.EntryLaws.{Planed, dimensions-ok}
use Rattle.layered.specs.Dimensions.{letter_of, start_of, size_of, stored_field_of, SizeSingle, plane, single, HasLayers, SizeRight, without, layers}
use Rattle.layered.specs.Dimensions.{DimensionsRight, LacksLayers, AllDimensions, AllSingle}
use Rattle.layered.proofs.Sizes.{one_of, size-right, size-passes, layers-pass}

-- ---- from the tests

-- X and then Y stand where some dimension closes the plane
plane-closed : (bs : List ℕ) (e n : ℕ) → any_below n (closes_plane bs e) ≡ true
    → (i : ℕ) × (j : ℕ) × (i < j) × (j < n) × (letter_of bs e i ≡ 88) × (letter_of bs e j ≡ 89)
unfolding closes_plane has_letter
plane-closed bs e n h =
    let l = least-is n (closes_plane bs e) h in
    let j = least_below n (closes_plane bs e) in
    by_bool (eqb (letter_of bs e j) 89)
    (λ y.
    let m = least-is j (has_letter bs e 88) (rw y at l.holds) in
    (least_below j (has_letter bs e 88), j, m.below, l.below, eqb-true _ 88 m.holds, eqb-true _ 89 y))
    (λ y. absurd (true≢false (sym (rw y at l.holds))))

-- dimensions that are not refused are right
dimensions-right : (bs : List ℕ) (e : ℕ) → dimensions_bad bs e ≡ false → DimensionsRight bs e (SizeRight bs e)
unfolding dimensions_bad dimension_bad too_far
dimensions-right bs e h = record {
  letters = λ k l. ((all.each k l).from-A, (all.each k l).to-Z);
  once = λ j k a b f. one_of j k (λ i. all.once k j b i f) (λ i. all.once j k a i (sym f));
  x_then_y = plane-closed bs e (dimension_count bs e) (not-false _ (none _ h 2));
  ends = λ k l. ltb-false 6442450943 (biased (start_of bs e k) + biased (size_of bs e k)) (none _ (each k l) 1);
  not_negative = λ k l. leb-false (2 ^ 31) (stored_field_of bs e k) (none _ (each k l) 2);
  sizes = size-right bs e h;
}
  where
    all : Planed bs e
    all = dimensions-ok bs e h

    each : (k : ℕ) → k < dimension_count bs e → dimension_bad bs (dimension_place e k) ≡ false
    each k l = any_none (dimension_count bs e) k (λ j. dimension_bad bs (dimension_place e j)) (none _ h 0) l

-- ---- to the tests

module _ (bs : List ℕ) (e : ℕ) (r : DimensionsRight bs e (SizeRight bs e)) where
  -- each by itself
  each-passes : (k : ℕ) → k < dimension_count bs e → dimension_bad bs (dimension_place e k) ≡ false
  unfolding dimension_bad letter_bad too_far any_of
  each-passes k l =
      rw (
        le-ltb (letter_of bs e k) 65 (r.letters k l).0,
        le-ltb 90 (letter_of bs e k) (r.letters k l).1,
        le-ltb 6442450943 (biased (start_of bs e k) + biased (size_of bs e k)) (r.ends k l),
        lt-leb (2 ^ 31) (stored_field_of bs e k) (r.not_negative k l),
        size-passes bs e k (r.sizes k l),
      )

  -- no letter twice
  none-repeats : (j : ℕ) → j < dimension_count bs e → repeats bs e j ≡ false
  unfolding repeats has_letter
  none-repeats j l =
      any-intro j _ (λ k b. ne_eqb _ _ (λ f. let same = r.once k j (omega arith) l f in absurd (omega (arith, same))))

  -- X and then Y
  plane-closes : any_below (dimension_count bs e) (closes_plane bs e) ≡ true
  unfolding closes_plane has_letter
  plane-closes =
      let p = r.x_then_y in
      any_found _ p.1 _ p.3 (rw (eq-eqb _ 89 p.5) (any_found p.1 p.0 _ p.2 (eq-eqb _ 88 p.4)))

  -- all of them
  right-passes : dimensions_bad bs e ≡ false
  unfolding dimensions_bad any_of
  right-passes =
      rw (
        any-intro (dimension_count bs e) (λ k. dimension_bad bs (dimension_place e k)) each-passes,
        any-intro (dimension_count bs e) (repeats bs e) none-repeats,
        plane-closes,
        any-intro (dimension_count bs e) (layers_bad bs e) (λ k l. layers-pass bs e k l (r.sizes k l)),
      )

pub all-dimensions : AllDimensions
all-dimensions bs e = (dimensions-right bs e, right-passes bs e)

-- ---- without layers

-- the same with another rule for a Size
resized : (bs : List ℕ) (e : ℕ) (S T : ℕ → Type 0) → ((k : ℕ) → k < dimension_count bs e → S k → T k) → DimensionsRight bs e S
    → DimensionsRight bs e T
resized bs e S T f r = record {
  letters = r.letters;
  once = r.once;
  x_then_y = r.x_then_y;
  ends = r.ends;
  not_negative = r.not_negative;
  sizes = λ k l. f k l (r.sizes k l);
}

-- a Size that is right and has no layers is right by paper 01's rule
size-single : (bs : List ℕ) (e : ℕ) → LacksLayers bs e → (k : ℕ) → k < dimension_count bs e → SizeRight bs e k → SizeSingle bs e k
size-single bs e n k l (without b) = b
size-single bs e n k l (layers r) = absurd (n k (record { within = l; other = r.other; several = r.several }))

-- a Size that is right by paper 01's rule has no layers
single-lacks : (bs : List ℕ) (e k : ℕ) → SizeSingle bs e k → HasLayers bs e k → ⊥
single-lacks bs e k (plane p a b) l = l.other p
single-lacks bs e k (single o s w) l = omega (arith, l.several)

pub all-single : AllSingle
all-single bs e = (
  λ h. resized bs e (SizeRight bs e) (SizeSingle bs e) (size-single bs e h.1) (dimensions-right bs e h.0),
  λ r. (
    right-passes bs e (resized bs e (SizeSingle bs e) (SizeRight bs e) (λ k l b. without b) r),
    λ k l. single-lacks bs e k (r.sizes k l.within) l,
  ),
)
