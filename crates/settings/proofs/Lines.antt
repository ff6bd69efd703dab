-- The lines of settings: each is read as what it says, and what is read is a line that says it. Assumes nothing.
use Prim.Native.Nat.{ℕ}
use mathlib.Core.Path.{◌≡◌, refl, sym, ◌∙◌, ap, subst}
use mathlib.Core.List.{List, [], ◌∷◌, ◌++◌, append_assoc}
use mathlib.Core.Bool.{true, false, not, true≢false}
use lib.ListN.{length, drop}
use borrow.Author.Tests.{not-false}
use Rattle.format.specs.Bytes.{any_of}
use Rattle.format.specs.Markup.{begins}
use Rattle.format.specs.Container.{same_bytes}
use Rattle.format.proofs.Below.{by_bool, none}
use Rattle.format.proofs.Nesting.{same-is}
use Rattle.format.proofs.Stretches.{drop-front, begins-own, begins-is}
use Rattle.text.specs.Text.{line}
use Rattle.question.specs.declared.Masks.{Masks}
use Rattle.question.specs.declared.Masks.TheVariants.{NotChosen, On, Off}
use Rattle.settings.specs.Settings.{Spelling, spelled, Spells, name_edition, name_pitch_x, name_pitch_y, name_masks, edition_text, masks_line}
use Rattle.settings.specs.Reading.{spelling_at, behind_pitch, pitch_at, pitch_bad, edition_bad, edition_at, pitch_line_bad, behind_pitch_line, masks_bad, masks_at}
use Rattle.settings.specs.declared.Edition.{Edition}
use Rattle.settings.specs.declared.Edition.TheVariants.{First, Second}
use Rattle.settings.proofs.Spelling.{pitch-found, pitch-behind, pitch-good, pitch-right}

-- ---- any line

-- a line before other bytes
pub line-parts : (name value r : List ℕ) → line name value ++ r ≡ name ++ (value ++ (10 ∷ r))
unfolding line
line-parts name value r = append_assoc (name ++ value) (10 ∷ []) r ∙ append_assoc name value (10 ∷ r)

-- ---- a pitch's line, whose name has 8 bytes

pub long-x : length name_pitch_x ≡ 8
unfolding name_pitch_x
long-x = refl

pub long-y : length name_pitch_y ≡ 8
unfolding name_pitch_y
long-y = refl

-- one that is read
pub record PitchLineRead (name bs : List ℕ) : Type 0 where
  pub written : bs ≡ line name (spelled (spelling_at (drop 8 bs))) ++ behind_pitch_line bs
  pub right : Spells (spelling_at (drop 8 bs)) (pitch_at (drop 8 bs))

module _ (name : List ℕ) (l : length name ≡ 8) where
  behind-name : (r : List ℕ) → drop 8 (name ++ r) ≡ r
  behind-name r = subst (λ n. drop n (name ++ r) ≡ r) l (drop-front name r)

  module _ (p : Spelling) (n : ℕ) (r : List ℕ) (s : Spells p n) where
    value_found : drop 8 (line name (spelled p) ++ r) ≡ spelled p ++ (10 ∷ r)
    value_found = ap (drop 8) (line-parts name (spelled p) r) ∙ behind-name (spelled p ++ (10 ∷ r))

    pub pitch-line-found : pitch_at (drop 8 (line name (spelled p) ++ r)) ≡ n
    pitch-line-found = rw value_found (pitch-found p n r s)

    pub pitch-line-behind : behind_pitch_line (line name (spelled p) ++ r) ≡ r
    unfolding behind_pitch_line
    pitch-line-behind = rw (value_found, pitch-behind p n r s)

    pub pitch-line-good : pitch_line_bad name (line name (spelled p) ++ r) ≡ false
    unfolding pitch_line_bad any_of begins
    pitch-line-good =
        let named : begins name (line name (spelled p) ++ r) ≡ true = rw (line-parts name (spelled p) r) (begins-own name (spelled p ++ (10 ∷ r))) in
        rw (named, value_found, pitch-good p n r s, pitch-behind p n r s)

  pub pitch-line-right : (bs : List ℕ) → pitch_line_bad name bs ≡ false → PitchLineRead name bs
  unfolding pitch_line_bad behind_pitch_line
  pitch-line-right bs h =
      let at : List ℕ = drop 8 bs in
      let tests = none (not (begins name bs) ∷ pitch_bad at ∷ not (begins (10 ∷ []) (behind_pitch at)) ∷ []) h in
      let named : bs ≡ name ++ at = subst (λ n. bs ≡ name ++ drop n bs) l (begins-is name bs (not-false (begins name bs) (tests 0))) in
      let p = pitch-right at (tests 1) in
      let ended : behind_pitch at ≡ 10 ∷ drop 1 (behind_pitch at) = begins-is (10 ∷ []) (behind_pitch at) (not-false _ (tests 2)) in
      record {
        written =
            named
            ∙ ap (λ r. name ++ r) (p.written ∙ ap (λ r. spelled (spelling_at at) ++ r) ended)
            ∙ sym (line-parts name (spelled (spelling_at at)) (drop 1 (behind_pitch at)));
        right = p.right;
      }

-- ---- the edition's line

pub edition-found : (e : Edition) (r : List ℕ) → edition_at (line name_edition (edition_text e) ++ r) ≡ e
unfolding edition_at begins line name_edition
edition-found First r = refl
edition-found Second r = refl

pub edition-behind : (e : Edition) (r : List ℕ) → drop 10 (line name_edition (edition_text e) ++ r) ≡ r
unfolding line name_edition
edition-behind First r = refl
edition-behind Second r = refl

pub edition-good : (e : Edition) (r : List ℕ) → edition_bad (line name_edition (edition_text e) ++ r) ≡ false
unfolding edition_bad begins any_of line name_edition
edition-good First r = refl
edition-good Second r = refl

-- bytes that begin with an edition's line
edition-begins : (e : Edition) (bs : List ℕ) → begins (line name_edition (edition_text e)) bs ≡ true → bs ≡ line name_edition (edition_text e) ++ drop 10 bs
unfolding line name_edition
edition-begins First bs h = begins-is (line name_edition (edition_text First)) bs h
edition-begins Second bs h = begins-is (line name_edition (edition_text Second)) bs h

pub edition-right : (bs : List ℕ) → edition_bad bs ≡ false → bs ≡ line name_edition (edition_text (edition_at bs)) ++ drop 10 bs
unfolding edition_bad edition_at any_of
edition-right bs h =
    by_bool (begins (line name_edition (edition_text First)) bs)
    (λ a. rw a (edition-begins First bs a))
    (λ a. by_bool (begins (line name_edition (edition_text Second)) bs)
    (λ b. rw a (edition-begins Second bs b))
    (λ b. absurd (true≢false (rw (a, b) at h))))

-- ---- the masks line

pub masks-found : (m : Masks) → masks_at (masks_line m) ≡ m
unfolding masks_at same_bytes masks_line line name_masks
masks-found NotChosen = refl
masks-found On = refl
masks-found Off = refl

pub masks-good : (m : Masks) → masks_bad (masks_line m) ≡ false
unfolding masks_bad same_bytes any_of masks_line line name_masks
masks-good NotChosen = refl
masks-good On = refl
masks-good Off = refl

pub masks-right : (bs : List ℕ) → masks_bad bs ≡ false → bs ≡ masks_line (masks_at bs)
unfolding masks_bad masks_at any_of
masks-right bs h =
    by_bool (same_bytes bs (masks_line NotChosen))
    (λ a. rw a (same-is bs (masks_line NotChosen) a))
    (λ a. by_bool (same_bytes bs (masks_line On))
    (λ b. rw (a, b) (same-is bs (masks_line On) b))
    (λ b. by_bool (same_bytes bs (masks_line Off))
    (λ c. rw (a, b) (same-is bs (masks_line Off) c))
    (λ c. absurd (true≢false (rw (a, b, c) at h)))))
