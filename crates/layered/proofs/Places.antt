-- Where the dimension with layers stands, and the dimension of a letter, in an entry that is not refused. Assumes nothing.
use Prim.Native.Nat.{ℕ, ◌≤◌, ◌<◌}
use mathlib.Core.Path.{◌≡◌, sym, ◌∙◌}
use mathlib.Core.Logic.{⊎_elim}
use mathlib.Core.List.{List}
use mathlib.Core.Bool.{true, false, true≢false}
use lib.Dec.{ltb}
use borrow.Author.Tests.{eq-eqb, ne_eqb, ltb-true, ltb-false}
use Rattle.format.specs.Bytes.{any_below}
use Rattle.format.specs.Entry.{dimension_count, dimension_place, has_letter, letter_index, letter_place, has_layers, layers_bad, dimensions_bad}
use Rattle.format.specs.Entry.{is_layered, layers_index, layers_place}
use Rattle.format.proofs.Below.{by_bool, none, any_found, any_none, any-intro, least-found}
use Rattle.entries.proofs.EntryLaws.{letter-placed}
use Rattle.layered.specs.Dimensions.{letter_of, size_of, HasLayers, LacksLayers}
use Rattle.layered.proofs.Sizes.{layers-are, are-layers, none_before}
use Rattle.layered.proofs.Dimensions.{all-dimensions}

-- ---- layers

-- no dimension has layers
pub not-layered : (bs : List ℕ) (e : ℕ) → LacksLayers bs e → is_layered bs e ≡ false
unfolding is_layered
not-layered bs e n =
    any-intro (dimension_count bs e) (has_layers bs e) (λ k l. by_bool (has_layers bs e k) (λ h. absurd (n k (layers-are bs e k l h))) (λ h. h))

-- then a dimension other than X and Y has Size 1 at most
pub single-size : (bs : List ℕ) (e k : ℕ) → k < dimension_count bs e → LacksLayers bs e → (letter_of bs e k ≡ 88 → ⊥) → (letter_of bs e k ≡ 89 → ⊥)
    → size_of bs e k ≤ 1
single-size bs e k l n x y =
    by_bool (ltb 1 (size_of bs e k))
    (λ s. absurd (n k (record { within = l; other = λ p. ⊎_elim x y p; several = ltb-true 1 (size_of bs e k) s })))
    (λ s. ltb-false 1 (size_of bs e k) s)

-- dimension k has
module _ (bs : List ℕ) (e k : ℕ) (l : HasLayers bs e k) where
  pub layered-is : is_layered bs e ≡ true
  unfolding is_layered
  layered-is = any_found (dimension_count bs e) k (has_layers bs e) l.within (are-layers bs e k l)

  pub layers-stand : dimensions_bad bs e ≡ false → layers_place bs e ≡ dimension_place e k
  unfolding dimensions_bad layers_place layers_index
  layers-stand h =
      let good = any_none (dimension_count bs e) k (layers_bad bs e) (none _ h 3) l.within in
      rw (least-found (dimension_count bs e) k (has_layers bs e) l.within (none_before bs e k good l) (are-layers bs e k l))

-- ---- a letter

-- dimension k has the letter x
module _ (bs : List ℕ) (e x k : ℕ) (l : k < dimension_count bs e) (i : letter_of bs e k ≡ x) where
  pub letter-found : any_below (dimension_count bs e) (has_letter bs e x) ≡ true
  unfolding has_letter
  letter-found = any_found (dimension_count bs e) k (has_letter bs e x) l (eq-eqb (letter_of bs e k) x i)

  pub letter-stands : dimensions_bad bs e ≡ false → letter_place bs e x ≡ dimension_place e k
  unfolding letter_place
  letter-stands h =
      let p = letter-placed bs e x letter-found in
      rw (((all-dimensions bs e).0 h).once (letter_index bs e x) k p.index l (p.letter-is ∙ sym i))

-- none has, by the test
pub letter-lacking : (bs : List ℕ) (e x : ℕ) → any_below (dimension_count bs e) (has_letter bs e x) ≡ false
    → (k : ℕ) → k < dimension_count bs e → letter_of bs e k ≡ x → ⊥
letter-lacking bs e x n k l i = true≢false (sym (letter-found bs e x k l i) ∙ n)

pub letter-none : (bs : List ℕ) (e x : ℕ) → ((k : ℕ) → k < dimension_count bs e → letter_of bs e k ≡ x → ⊥)
    → any_below (dimension_count bs e) (has_letter bs e x) ≡ false
unfolding has_letter
letter-none bs e x f = any-intro (dimension_count bs e) (has_letter bs e x) (λ k l. ne_eqb (letter_of bs e k) x (f k l))
