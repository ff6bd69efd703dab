-- The Size of one dimension of an entry, and its layers: what the tests say of it, in plain words. Assumes nothing.
use Prim.Native.Nat.{ℕ, ◌^◌, ◌≤◌, ◌<◌}
use mathlib.Core.Path.{◌≡◌, sym, ◌∙◌}
use mathlib.Core.Logic.{◌⊎◌, inl, inr}
use mathlib.Core.List.{List, [], ◌∷◌}
use mathlib.Core.Bool.{true, false, not, or-true, true≢false}
use native.Mathlib.Omega.{arith}
use lib.Dec.{eqb, ltb}
use borrow.Author.Tests.{lt-ltb, le-ltb, lt-leb, eq-eqb, ne_eqb, ltb-true, ltb-false, eqb-true, not-false}
use Rattle.format.specs.Bytes.{any_of, any_below, least_below}
use Rattle.format.specs.Entry.{dimension_count, dimension_place, size, stored, stored_field, is_plane, most_size, plane_size_bad, other_size_bad, size_bad}
use Rattle.format.specs.Entry.{dimension_bad, has_letter, has_layers, layers_bad, dimensions_bad}
use Rattle.format.proofs.Below.{by_bool, none, any_found, any_none, any-intro, least-is}
use Rattle.entries.proofs.EntryLaws.{dimension-ok, other-ok}
use Rattle.entries.proofs.LayerLaws.{most-layers}
use Rattle.layered.specs.Dimensions.{letter_of, size_of, StoredWhole, plane, single, HasLayers, SizeRight, without, layers}

-- of two numbers neither is less
pub one_of : (j k : ℕ) → (j < k → ⊥) → (k < j → ⊥) → j ≡ k
one_of j k f g = omega (arith, f, g)

-- ---- X or Y

-- the test says so, and says so of no other letter
plane-is : (x : ℕ) → is_plane x ≡ true → (x ≡ 88) ⊎ (x ≡ 89)
unfolding is_plane any_of
plane-is x h =
    by_bool (eqb x 88)
    (λ a. inl (eqb-true x 88 a))
    (λ a. by_bool (eqb x 89) (λ b. inr (eqb-true x 89 b)) (λ b. absurd (true≢false (sym h ∙ rw (a, b)))))

is-plane : (x : ℕ) → (x ≡ 88) ⊎ (x ≡ 89) → is_plane x ≡ true
unfolding is_plane any_of
is-plane x (inl e) = rw (eq-eqb x 88 e)
is-plane x (inr e) = rw (eq-eqb x 89 e, or-true)

other-is : (x : ℕ) → is_plane x ≡ false → (x ≡ 88) ⊎ (x ≡ 89) → ⊥
other-is x h p = true≢false (sym (is-plane x p) ∙ h)

is-other : (x : ℕ) → ((x ≡ 88) ⊎ (x ≡ 89) → ⊥) → is_plane x ≡ false
is-other x f = by_bool (is_plane x) (λ h. absurd (f (plane-is x h))) (λ h. h)

-- ---- the stored size

-- it is Size where StoredSize is 0 or Size
whole_is : (bs : List ℕ) (d : ℕ) → stored bs d ≡ size bs d → (stored_field bs d ≡ 0) ⊎ (stored_field bs d ≡ size bs d)
unfolding stored
whole_is bs d h = by_bool (eqb (stored_field bs d) 0) (λ z. inl (eqb-true _ 0 z)) (λ z. inr (rw z at h))

is_whole : (bs : List ℕ) (d : ℕ) → (stored_field bs d ≡ 0) ⊎ (stored_field bs d ≡ size bs d) → stored bs d ≡ size bs d
unfolding stored
is_whole bs d (inl e) = rw (eq-eqb (stored_field bs d) 0 e)
is_whole bs d (inr e) = by_bool (eqb (stored_field bs d) 0) (λ z. rw z) (λ z. rw z e)

-- ---- layers

module _ (bs : List ℕ) (e : ℕ) where
  -- the test says that dimension k has layers, where it has
  pub layers-are : (k : ℕ) → k < dimension_count bs e → has_layers bs e k ≡ true → HasLayers bs e k
  unfolding has_layers
  layers-are k l h =
      by_bool (is_plane (letter_of bs e k))
      (λ p. absurd (true≢false (sym (rw p at h))))
      (λ p. record { within = l; other = other-is (letter_of bs e k) p; several = ltb-true 1 (size_of bs e k) (rw p at h) })

  pub are-layers : (k : ℕ) → HasLayers bs e k → has_layers bs e k ≡ true
  unfolding has_layers
  are-layers k l = rw (is-other (letter_of bs e k) l.other) (lt-ltb 1 (size_of bs e k) l.several)

  -- dimension k has layers and is not refused: none with layers stands before it, and Y does
  module _ (k : ℕ) (h : layers_bad bs e k ≡ false) (l : HasLayers bs e k) where
    tests-pass : any_of (any_below k (has_layers bs e) ∷ not (any_below k (has_letter bs e 89)) ∷ []) ≡ false
    unfolding layers_bad
    tests-pass = rw (are-layers k l) at h

    pub none_before : any_below k (has_layers bs e) ≡ false
    none_before = none _ tests-pass 0

    first-layers : (j : ℕ) → HasLayers bs e j → j < k → ⊥
    first-layers j m b = true≢false (sym (are-layers j m) ∙ any_none k j (has_layers bs e) none_before b)

    behind-plane : (j : ℕ) × (j < k) × (letter_of bs e j ≡ 89)
    unfolding has_letter
    behind-plane =
        let y = least-is k (has_letter bs e 89) (not-false _ (none _ tests-pass 1)) in
        (least_below k (has_letter bs e 89), y.below, eqb-true _ 89 y.holds)

  -- a Size that is right is not refused for its layers
  pub layers-pass : (k : ℕ) → k < dimension_count bs e → SizeRight bs e k → layers_bad bs e k ≡ false
  unfolding layers_bad any_of has_letter
  layers-pass k l s = by_bool (has_layers bs e k) (λ h. rw h (go s (layers-are k l h))) (λ h. rw h)
    where
      go : SizeRight bs e k → HasLayers bs e k → any_of (any_below k (has_layers bs e) ∷ not (any_below k (has_letter bs e 89)) ∷ []) ≡ false
      go (without (plane p a b)) m = absurd (m.other p)
      go (without (single o one w)) m = absurd (omega (arith, m.several))
      go (layers r) m =
          rw (
            any-intro k (has_layers bs e)
                (λ j b. by_bool (has_layers bs e j) (λ h. let same = r.alone j (layers-are j (omega arith) h) in absurd (omega (arith, same))) (λ h. h)),
            any_found k r.after.0 (has_letter bs e 89) r.after.1 (eq-eqb _ 89 r.after.2),
          )

-- ---- a Size that is not refused is right

pub size-right : (bs : List ℕ) (e : ℕ) → dimensions_bad bs e ≡ false → (k : ℕ) → k < dimension_count bs e → SizeRight bs e k
unfolding dimensions_bad
size-right bs e h k l =
    let d = dimension_place e k in
    let bad = any_none (dimension_count bs e) k (λ j. dimension_bad bs (dimension_place e j)) (none _ h 0) l in
    let sized = dimension-ok bs d bad in
    by_bool (is_plane (letter_of bs e k))
    (λ p. without (plane (plane-is (letter_of bs e k) p) sized.size-some sized.size_fits))
    (λ p.
    let rule = other-ok bs d bad p in
    let other = other-is (letter_of bs e k) p in
    let whole = whole_is bs d rule.1 in
    by_bool (ltb 1 (size_of bs e k))
    (λ s.
    let several = ltb-true 1 (size_of bs e k) s in
    let most = most-layers (letter_of bs e k) (size_of bs e k) rule.0 several in
    let own : HasLayers bs e k = record { within = l; other = other; several = several } in
    layers (record {
      other = other;
      no-m = most.1;
      no-s = most.2;
      several = several;
      few = most.0;
      stored = whole;
      after = behind-plane bs e k (good k l) own;
      alone = λ j m. one_of j k (first-layers bs e k (good k l) own j m) (first-layers bs e j (good j m.within) m k own);
    }))
    (λ s. let few = ltb-false 1 (size_of bs e k) s in without (single other (omega (arith, few, sized.size-some)) whole)))
  where
    good : (j : ℕ) → j < dimension_count bs e → layers_bad bs e j ≡ false
    good j m = any_none (dimension_count bs e) j (layers_bad bs e) (none _ h 3) m

-- ---- a Size that is right is not refused

-- the largest Size of a letter besides M and S
most_other : (x : ℕ) → (x ≡ 77 → ⊥) → (x ≡ 83 → ⊥) → most_size x ≡ 1024
unfolding most_size
most_other x m s = rw (ne_eqb x 77 m, ne_eqb x 83 s)

-- every letter may have Size 1
most-some : (x : ℕ) → 1 ≤ most_size x
unfolding most_size
most-some x =
    by_bool (eqb x 77) (λ m. rw m (omega arith)) (λ m. by_bool (eqb x 83) (λ s. rw (m, s) (omega arith)) (λ s. rw (m, s) (omega arith)))

module _ (bs : List ℕ) (e k : ℕ) where
  -- of X and Y, and of another letter
  plane-passes : 1 ≤ size_of bs e k → size_of bs e k < 2 ^ 31 → plane_size_bad bs (dimension_place e k) ≡ false
  unfolding plane_size_bad any_of
  plane-passes a b = rw (ne_eqb (size_of bs e k) 0 (λ z. omega arith), lt-leb (2 ^ 31) (size_of bs e k) b)

  other-passes : 1 ≤ size_of bs e k → size_of bs e k ≤ most_size (letter_of bs e k) → StoredWhole bs e k → other_size_bad bs (dimension_place e k) ≡ false
  unfolding other_size_bad any_of
  other-passes a b w =
      rw (
        ne_eqb (size_of bs e k) 0 (λ z. omega arith),
        le-ltb (most_size (letter_of bs e k)) (size_of bs e k) b,
        eq-eqb _ _ (is_whole bs (dimension_place e k) w),
      )

  -- by either rule
  pub size-passes : SizeRight bs e k → size_bad bs (dimension_place e k) ≡ false
  unfolding size_bad
  size-passes (without (plane p a b)) = rw (is-plane (letter_of bs e k) p) (plane-passes a b)
  size-passes (without (single o s w)) =
      let some = most-some (letter_of bs e k) in
      rw (is-other (letter_of bs e k) o) (other-passes (omega arith) (omega arith) w)
  size-passes (layers r) =
      let most = most_other (letter_of bs e k) r.no-m r.no-s in
      rw (is-other (letter_of bs e k) r.other) (other-passes (omega (arith, r.several)) (omega (arith, most, r.few)) r.stored)
