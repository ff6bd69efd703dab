-- Laws of the pass over the items: what is left of the metadata decides, with the open tags, the stage and whether there was a section.
use Prim.Native.Nat.{ℕ, ◌≤◌, ◌<◌}
use mathlib.Core.Path.{◌≡◌, refl, sym, ◌∙◌}
use mathlib.Core.List.{List, [], ◌∷◌}
use mathlib.Core.Bool.{Bool, true, false, not, ◌||◌}
use mathlib.Core.Option.{Option, none, some, Option-elim}
use mathlib.Core.Logic.{⊎_elim, ◌⊎◌}
use native.Mathlib.Omega.{arith}
use borrow.Author.Tests.{lt-ltb, le-ltb, eqb-true, eqb-false, not-true, not-false}
use lib.ListN.{length}
use lib.Dec.{eqb}
use Rattle.format.specs.Bytes.{part_of}
use Rattle.format.specs.Markup.{Item, start, close, empty, text, skipped, item_at, one_more, reads_as}
use Rattle.format.specs.Container.{same_bytes, start_stage, text_stage, ends_well, declares, is_container}
use Rattle.format.proofs.Reading.{reads-step, reads_nothing, shorter}
use Rattle.markup.specs.Items.{meant}
use Rattle.markup.specs.declared.items.Item.{Item as Token}
use Rattle.markup.specs.declared.items.Item.TheVariants.{Start, Close, Empty, Text, Skipped}
use Rattle.markup.proofs.Sections.{same-pointwise}
use Rattle.std.specs.Cmp.Lexicographic.{pointwise}
use Rattle.std.proofs.Math.Dec.{eqb-suc-zero}
use denote.Ref.{Bor}

-- ---- what is left

-- what the items from here on say, if they read
unfoldable pub decides : Bool → ℕ → List (List ℕ) → List ℕ → Bool
decides found stage names bs = Option-elim (reads_as bs) false (ends_well found stage names)

like : (o : Option (List Item)) (f g : List Item → Bool) → ((items : List Item) → f items ≡ g items) → Option-elim o false f ≡ Option-elim o false g
unfolding Option-elim
like none f g h = refl
like (some items) f g h = h items

never : (o : Option (List Item)) (f : List Item → Bool) → ((items : List Item) → f items ≡ false) → Option-elim o false f ≡ false
unfolding Option-elim
never none f h = refl
never (some items) f h = h items

one-item : (i : Item) (o : Option (List Item)) (f : List Item → Bool) → Option-elim (one_more i o) false f ≡ Option-elim o false (λ items. f (i ∷ items))
unfolding Option-elim one_more
one-item i none f = refl
one-item i (some items) f = refl

-- an item, and what stands behind it
module _ (found : Bool) (stage : ℕ) (names : List (List ℕ)) (b : ℕ) (bs : List ℕ) where
  decides-broken : item_at (b ∷ bs) ≡ none → decides found stage names (b ∷ bs) ≡ false
  unfolding decides Option-elim
  decides-broken e = rw (reads-step b bs, e)

  decides-item : (i : Item) (rest : List ℕ) → item_at (b ∷ bs) ≡ some (i, rest)
      → decides found stage names (b ∷ bs) ≡ Option-elim (reads_as rest) false (λ items. ends_well found stage names (i ∷ items))
  unfolding decides Option-elim
  decides-item i rest e = rw (reads-step b bs, e) (one-item i (reads_as rest) (ends_well found stage names))

-- each kind of item
module _ (found : Bool) (stage : ℕ) (names : List (List ℕ)) (rest : List ℕ) where
  abbrev With : Item → Bool
  With i = Option-elim (reads_as rest) false (λ items. ends_well found stage names (i ∷ items))

  with-start : (name : List ℕ) → length names < 64 → With (start name) ≡ decides found (start_stage (name ∷ names)) (name ∷ names) rest
  unfolding decides ends_well
  with-start name h = like (reads_as rest) _ _ (λ items. rw (lt-ltb (length names) 64 h))

  with-many : (name : List ℕ) → 64 ≤ length names → With (start name) ≡ false
  unfolding ends_well
  with-many name h = never (reads_as rest) _ (λ items. rw (le-ltb (length names) 64 h))

  with-empty : With empty ≡ decides found 0 names rest
  unfolding decides ends_well
  with-empty = like (reads_as rest) _ _ (λ items. refl)

  with-skipped : With skipped ≡ decides found 0 names rest
  unfolding decides ends_well
  with-skipped = like (reads_as rest) _ _ (λ items. refl)

  with-text : (words : List ℕ) → With (text words) ≡ decides found (text_stage stage words) names rest
  unfolding decides ends_well
  with-text words = like (reads_as rest) _ _ (λ items. refl)

-- an end tag
module _ (found : Bool) (stage : ℕ) (name rest : List ℕ) where
  with-closed : (n : List ℕ) (names : List (List ℕ)) → same_bytes name n ≡ true
      → With found stage (n ∷ names) rest (close name) ≡ decides (found || eqb stage 2) 0 names rest
  unfolding decides ends_well
  with-closed n names e = like (reads_as rest) _ _ (λ items. rw e)

  with-other : (n : List ℕ) (names : List (List ℕ)) → same_bytes name n ≡ false → With found stage (n ∷ names) rest (close name) ≡ false
  unfolding ends_well
  with-other n names e = never (reads_as rest) _ (λ items. rw e)

  with_none : With found stage [] rest (close name) ≡ false
  unfolding ends_well
  with_none = never (reads_as rest) _ (λ items. refl)

-- ---- a step of the pass: b is the answer that is sought

pub walk-start : (bs rest : List ℕ) (p n : ℕ) → rest ≡ part_of bs p n → is_container bs p n ≡ decides false 0 [] rest
unfolding is_container declares decides
walk-start bs rest p n e = rw e

module _ (b found : Bool) (stage : ℕ) (names : List (List ℕ)) (rest : List ℕ) (w : b ≡ decides found stage names rest) where
  -- no item
  pub broken : false ≡ eqb (length rest) 0 → none ≡ item_at rest → false ≡ b
  broken =
      elim rest as (λ r. b ≡ decides found stage names r → false ≡ eqb (length r) 0 → none ≡ item_at r → false ≡ b)
      [ [] ↦ λ w h e. cc | x ∷ xs ↦ λ w h e. sym (w ∙ decides-broken found stage names x xs (sym e)) ] w

  -- an item, and what stands behind it
  module _ (item : Token) (behind : List ℕ) (h : false ≡ eqb (length rest) 0) (e : some (meant item, behind) ≡ item_at rest) where
    left : b ≡ With found stage names behind (meant item)
    left =
        elim rest as (λ r. b ≡ decides found stage names r → false ≡ eqb (length r) 0 → some (meant item, behind) ≡ item_at r → b ≡ With found stage names behind (meant item))
        [ [] ↦ λ w h e. cc | x ∷ xs ↦ λ w h e. w ∙ decides-item found stage names x xs (meant item) behind (sym e) ] w h e

    pub less : length behind < length rest
    less =
        elim rest as (λ r. false ≡ eqb (length r) 0 → some (meant item, behind) ≡ item_at r → length behind < length r)
        [ [] ↦ λ h e. cc | x ∷ xs ↦ λ h e. shorter x xs (meant item, behind) (sym e) ] h e

    module _ (name : Bor (List ℕ)) where
      pub too_many : item ≡ Start name → true ≡ eqb (length names) 64 → false ≡ b
      too_many i m = sym (left ∙ rw i (with-many found stage names behind name.now (omega (arith, eqb-true (length names) 64 (sym m)))))

      pub walk-opened : item ≡ Start name → false ≡ eqb (length names) 64 → length names ≤ 64 → (names' : List (List ℕ)) → names' ≡ name.now ∷ names
          → (stage' : ℕ) → stage' ≡ start_stage names' → b ≡ decides found stage' names' behind
      walk-opened i m f names' n stage' s =
          let few : length names < 64 = omega (arith, eqb-false (length names) 64 (sym m)) in
          left ∙ rw (i, s, n) (with-start found stage names behind name.now few)

      pub none_open : item ≡ Close name → names ≡ [] → false ≡ b
      none_open i n = sym (left ∙ rw (i, n) (with_none found stage name.now behind))

      module _ (last : List ℕ) (outer : List (List ℕ)) (i : item ≡ Close name) (n : names ≡ last ∷ outer) where
        pub other_name : true ≡ not (pointwise eqb name.now last) → false ≡ b
        other_name d = sym (left ∙ rw (i, n) (with-other found stage name.now behind last outer (sym (same-pointwise name.now last) ∙ not-true _ (sym d))))

        pub walk-closed : false ≡ not (pointwise eqb name.now last) → (found' : Bool) → found' ≡ (found || eqb stage 2) → b ≡ decides found' 0 outer behind
        walk-closed d found' f =
            left ∙ rw (i, n, f) (with-closed found stage name.now behind last outer (sym (same-pointwise name.now last) ∙ not-false _ (sym d)))

      pub walk-text : item ≡ Text name → (stage' : ℕ) → stage' ≡ text_stage stage name.now → b ≡ decides found stage' names behind
      walk-text i stage' s = left ∙ rw (i, s) (with-text found stage names behind name.now)

    pub walk-other : (item ≡ Empty) ⊎ (item ≡ Skipped) → b ≡ decides found 0 names behind
    walk-other =
        ⊎_elim (λ (i : item ≡ Empty). left ∙ rw i (with-empty found stage names behind))
        (λ (i : item ≡ Skipped). left ∙ rw i (with-skipped found stage names behind))

  -- nothing is left
  module _ (done : true ≡ eqb (length rest) 0) where
    last : b ≡ ends_well found stage names []
    unfolding decides Option-elim
    last =
        elim rest as (λ r. b ≡ decides found stage names r → true ≡ eqb (length r) 0 → b ≡ ends_well found stage names [])
        [ [] ↦ λ w d. w ∙ rw reads_nothing | x ∷ xs ↦ λ w d. cc (d ∙ eqb-suc-zero (length xs)) ] w done

    pub still_open : (r : Bool) → r ≡ eqb (length names) 0 → r ≡ false → r ≡ b
    unfolding ends_well
    still_open r e h =
        elim names as (λ ns. b ≡ ends_well found stage ns [] → r ≡ eqb (length ns) 0 → r ≡ b)
        [ [] ↦ λ l e. cc (sym h ∙ e) | n ∷ ns ↦ λ l e. h ∙ sym l ] last e

    pub all_closed : true ≡ eqb (length names) 0 → found ≡ b
    unfolding ends_well
    all_closed =
        elim names as (λ ns. b ≡ ends_well found stage ns [] → true ≡ eqb (length ns) 0 → found ≡ b)
        [ [] ↦ λ l e. sym l | n ∷ ns ↦ λ l e. cc (e ∙ eqb-suc-zero (length ns)) ] last
