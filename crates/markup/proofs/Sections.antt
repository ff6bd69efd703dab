-- Whether the open tags are the section's three.
use Rattle.std.proofs.Common.{◌≡◌, refl, sym, ap, ◌∙◌, ℕ, Bool, true, false, List, [], ◌∷◌, length, map, reverse, nat_eq, arith}
use mathlib.Core.Bool.{◌&&◌, and-false}
use Rattle.std.proofs.lemmas.List.{length-reverse}
use Rattle.std.specs.Cmp.Lexicographic.{pointwise}
use Rattle.std.specs.Cmp.Derive.Mapped.{pointwise-map}
use Rattle.std.specs.Prelude.{Option, None, Some}
use Rattle.std.specs.Option.{option_eq}
use Rattle.markup.specs.Open.{name_in}
use Rattle.format.specs.Names.{tag_metadata, tag_schema, tag_format, text_container}
use Rattle.format.specs.Container.{same_bytes, in_section, text_stage}
use Rattle.format.proofs.Below.{by_bool}
use Rattle.markup.specs.Stages.{number}
use Rattle.markup.specs.declared.section.Stage.{Stage}
use Rattle.markup.specs.declared.section.Stage.TheVariants.{Elsewhere, Begun, Said}
use Rattle.markup.specs.contracts.section.Stage.{the_type}
use denote.Enum.Bare.{sameb}
use denote.Ref.{Bor}
use lib.Dec.{eqb}

pub same-pointwise : (xs ys : List ℕ) → pointwise nat_eq xs ys ≡ same_bytes xs ys
unfolding same_bytes
same-pointwise [] [] = refl
same-pointwise [] (y ∷ ys) = refl
same-pointwise (x ∷ xs) [] = refl
same-pointwise (x ∷ xs) (y ∷ ys) = ap (λ (t : Bool). nat_eq x y && t) (same-pointwise xs ys)

section-other : (names : List (List ℕ)) → (length names ≡ 3 → ⊥) → false ≡ in_section names
unfolding in_section
section-other [] h = refl
section-other (a ∷ []) h = refl
section-other (a ∷ b ∷ []) h = refl
section-other (a ∷ b ∷ c ∷ []) h = absurd (h refl)
section-other (a ∷ b ∷ c ∷ d ∷ names) h = refl

turned : (a b c : Bool) → (a && (b && (c && true))) ≡ ((c && b) && a)
turned true true true = refl
turned true true false = refl
turned true false true = refl
turned true false false = refl
turned false true true = refl
turned false true false = refl
turned false false true = refl
turned false false false = refl

abbrev E : List ℕ → List ℕ → Bool
E = pointwise nat_eq

three : (names : List (List ℕ)) → pointwise E names (tag_metadata ∷ tag_schema ∷ tag_format ∷ []) ≡ in_section (reverse names)
unfolding in_section
three [] = refl
three (a ∷ []) = and-false (E a tag_metadata)
three (a ∷ b ∷ []) = rw (and-false (E b tag_schema)) (and-false (E a tag_metadata))
three (a ∷ b ∷ c ∷ []) =
    rw (same-pointwise, same-pointwise, same-pointwise) (turned (same_bytes a tag_metadata) (same_bytes b tag_schema) (same_bytes c tag_format))
three (a ∷ b ∷ c ∷ d ∷ names) =
    let l : length (reverse (a ∷ b ∷ c ∷ d ∷ names)) ≡ length (a ∷ b ∷ c ∷ d ∷ names) = length-reverse (a ∷ b ∷ c ∷ d ∷ names) in
    rw (and-false (E c tag_format), and-false (E b tag_schema), and-false (E a tag_metadata))
    (section-other (reverse (a ∷ b ∷ c ∷ d ∷ names)) (λ e. absurd (omega (arith, l, e))))

-- by what is compared: references to them; for who compares slices, no function's proof cites it
pub section-is : (names ours : List (Bor (List ℕ))) (names' : List (List ℕ)) → map (λ name. name.now) ours ≡ tag_metadata ∷ tag_schema ∷ tag_format ∷ []
    → reverse (map (λ name. name.now) names) ≡ names' → (r : Bool) → r ≡ pointwise (λ a b. E a.now b.now) names ours → r ≡ in_section names'
section-is names ours names' o e r h =
    h ∙ sym (pointwise-map (λ name. name.now) E names ours) ∙ rw (o, ← e) (three (map (λ name. name.now) names))

-- by what is compared: a reference, or none, which has no bytes
same-name : (o : Option (Bor (List ℕ))) (t : Bor (List ℕ)) (b : ℕ) (bs : List ℕ) → t.now ≡ b ∷ bs
    → option_eq (λ x y. E x.now y.now) o (Some t) ≡ E (name_in o) (b ∷ bs)
unfolding name_in
same-name None t b bs e = refl
same-name (Some n) t b bs e = rw e

module _ (a b c : Bor (List ℕ)) (x : a.now ≡ tag_metadata) (y : b.now ≡ tag_schema) (z : c.now ≡ tag_format) where
  by-names : (names : List (Option (Bor (List ℕ))))
      → pointwise (option_eq (λ s t. E s.now t.now)) names (Some a ∷ Some b ∷ Some c ∷ []) ≡ pointwise E (map name_in names) (tag_metadata ∷ tag_schema ∷ tag_format ∷ [])
  unfolding tag_metadata tag_schema tag_format
  by-names [] = refl
  by-names (o ∷ []) = rw (same-name o a _ _ x)
  by-names (o ∷ p ∷ []) = rw (same-name o a _ _ x, same-name p b _ _ y)
  by-names (o ∷ p ∷ q ∷ []) = rw (same-name o a _ _ x, same-name p b _ _ y, same-name q c _ _ z)
  by-names (o ∷ p ∷ q ∷ r ∷ names) = rw (same-name o a _ _ x, same-name p b _ _ y, same-name q c _ _ z)

  pub is-section : (names : List (Option (Bor (List ℕ)))) (names' : List (List ℕ)) → reverse (map name_in names) ≡ names'
      → (r : Bool) → r ≡ pointwise (option_eq (λ s t. E s.now t.now)) names (Some a ∷ Some b ∷ Some c ∷ []) → r ≡ in_section names'
  is-section names names' e r h = h ∙ by-names names ∙ rw (← e) (three (map name_in names))

-- the text that follows the section's last start tag
module _ (text : List ℕ) (stage : Stage) where
  begun : true ≡ sameb the_type stage Begun → number stage ≡ 1
  begun = elim stage as (λ s. true ≡ sameb the_type s Begun → number s ≡ 1) [ Elsewhere ↦ λ e. cc | Begun ↦ λ e. refl | Said ↦ λ e. cc ]

  module _ (t : List ℕ) (c : t ≡ text_container) where
    pub text-said : true ≡ sameb the_type stage Begun → true ≡ pointwise nat_eq text t → 2 ≡ text_stage (number stage) text
    unfolding text_stage
    text-said b h = rw (begun b, ← c, ← same-pointwise, ← h)

    pub text-other : false ≡ pointwise nat_eq text t → 0 ≡ text_stage (number stage) text
    unfolding text_stage
    text-other h = rw (← c, ← same-pointwise, ← h) (by_bool (eqb (number stage) 1) (λ e. rw e) (λ e. rw e))

  pub text-late : false ≡ sameb the_type stage Begun → 0 ≡ text_stage (number stage) text
  unfolding text_stage
  text-late = elim stage as (λ s. false ≡ sameb the_type s Begun → 0 ≡ text_stage (number s) text) [ Elsewhere ↦ λ e. refl | Begun ↦ λ e. cc | Said ↦ λ e. refl ]

-- whether it was that text
pub was-said : (stage : Stage) (r : Bool) → r ≡ sameb the_type stage Said → r ≡ eqb (number stage) 2
was-said Elsewhere r e = e
was-said Begun r e = e
was-said Said r e = e
