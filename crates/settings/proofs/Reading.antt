-- Settings are read exactly from their texts, and any other bytes are refused as `Claims` says. Assumes nothing.
use Prim.Native.Nat.{ℕ}
use mathlib.Core.Path.{◌≡◌, refl, sym, ◌∙◌, ap, subst}
use mathlib.Core.List.{List, [], ◌∷◌, ◌++◌}
use mathlib.Core.Bool.{Bool, true, false, cond}
use native.Mathlib.Omega.{arith}
use lib.ListN.{length, drop}
use lib.Dec.{ltb}
use borrow.Author.Tests.{ltb-true, lt-ltb, le-ltb}
use Rattle.format.specs.Bytes.{any_of}
use Rattle.format.specs.Checks.{Verdict, Accepted, Refused, number_of, place_of}
use Rattle.format.proofs.Below.{by_bool, none}
use Rattle.format.proofs.Firsts.{first-passed}
use Rattle.text.specs.Text.{line}
use Rattle.question.specs.declared.Masks.{Masks}
use Rattle.settings.specs.Settings.{Spelling, spelled, Spells, name_edition, name_pitch_x, name_pitch_y, edition_text, masks_line, settings_text}
use Rattle.settings.specs.Settings.{Written, FirstComma}
use Rattle.settings.specs.Reading.{spelling_at, edition_bad, edition_at, pitch_line_bad, masks_bad}
use Rattle.settings.specs.Reading.{second_line, third_line, last_line, settings_bad, settings_in}
use Rattle.settings.specs.Answers.{comma_place, settings_rows, settings_verdict}
use Rattle.settings.specs.Claims.{AllSettings}
use Rattle.settings.specs.declared.Settings.{Settings}
use Rattle.settings.proofs.Lines.{long-x, long-y, pitch-line-found, pitch-line-behind, pitch-line-good, pitch-line-right}
use Rattle.settings.proofs.Lines.{edition-found, edition-behind, edition-good, edition-right, masks-found, masks-good, masks-right}
use Rattle.settings.proofs.Commas.{comma-place, comma-first, without-place, without-text}
use Rattle.format.specs.declared.Fault.TheVariants as Fault

-- ---- a text is read as its settings

-- the lines from the second on, and from the third on
abbrev from_second : Spelling → Spelling → Masks → List ℕ
from_second x y m = line name_pitch_x (spelled x) ++ (line name_pitch_y (spelled y) ++ masks_line m)

abbrev from_third : Spelling → Masks → List ℕ
from_third y m = line name_pitch_y (spelled y) ++ masks_line m

module _ (s : Settings) (x y : Spelling) (a : Spells x s.pitch_x) (b : Spells y s.pitch_y) where
  abbrev text : List ℕ
  text = settings_text s.edition x y s.masks

  second_is : second_line text ≡ from_second x y s.masks
  unfolding second_line settings_text
  second_is = edition-behind s.edition (from_second x y s.masks)

  third-is : third_line text ≡ from_third y s.masks
  unfolding third_line
  third-is = rw second_is (pitch-line-behind name_pitch_x long-x x s.pitch_x (from_third y s.masks) a)

  last-is : last_line text ≡ masks_line s.masks
  unfolding last_line
  last-is = rw third-is (pitch-line-behind name_pitch_y long-y y s.pitch_y (masks_line s.masks) b)

  text-good : settings_bad text ≡ false
  unfolding settings_bad any_of
  text-good =
      let good-edition : edition_bad text ≡ false = unfold settings_text in edition-good s.edition (from_second x y s.masks) in
      let good-x = pitch-line-good name_pitch_x long-x x s.pitch_x (from_third y s.masks) a in
      let good-y = pitch-line-good name_pitch_y long-y y s.pitch_y (masks_line s.masks) b in
      rw (good-edition, second_is, third-is, last-is, good-x, good-y, masks-good s.masks)

  text-read : settings_in text ≡ s
  unfolding settings_in
  text-read =
      let found-edition : edition_at text ≡ s.edition = unfold settings_text in edition-found s.edition (from_second x y s.masks) in
      let found-x = pitch-line-found name_pitch_x long-x x s.pitch_x (from_third y s.masks) a in
      let found-y = pitch-line-found name_pitch_y long-y y s.pitch_y (masks_line s.masks) b in
      rw (found-edition, second_is, third-is, last-is, found-x, found-y, masks-found s.masks)

  -- it has no comma
  text-place : comma_place text ≡ length text
  text-place = without-place text (without-text s.edition x y s.masks s.pitch_x s.pitch_y a b)

-- bytes that are a text of s
module _ (s : Settings) (bs : List ℕ) (w : Written s bs) where
  written-good : settings_bad bs ≡ false
  written-good = rw w.text_is (text-good s w.x w.y w.x-spelled w.y-spelled)

  written_read : settings_in bs ≡ s
  written_read = rw w.text_is (text-read s w.x w.y w.x-spelled w.y-spelled)

  written-place : comma_place bs ≡ length bs
  written-place = rw w.text_is (text-place s w.x w.y w.x-spelled w.y-spelled)

-- ---- what is read as settings is a text of them

read-written : (bs : List ℕ) → settings_bad bs ≡ false → Written (settings_in bs) bs
unfolding settings_bad settings_in settings_text second_line third_line last_line
read-written bs h =
    let tests = none (edition_bad bs ∷ pitch_line_bad name_pitch_x (second_line bs) ∷ pitch_line_bad name_pitch_y (third_line bs) ∷ masks_bad (last_line bs) ∷ []) h in
    let px = pitch-line-right name_pitch_x long-x (second_line bs) (tests 1) in
    let py = pitch-line-right name_pitch_y long-y (third_line bs) (tests 2) in
    record {
      x = spelling_at (drop 8 (second_line bs));
      y = spelling_at (drop 8 (third_line bs));
      x-spelled = px.right;
      y-spelled = py.right;
      text_is =
          edition-right bs (tests 0)
          ∙ ap (λ r. line name_edition (edition_text (edition_at bs)) ++ r) (px.written
          ∙ ap (λ r. line name_pitch_x (spelled (spelling_at (drop 8 (second_line bs)))) ++ r) (py.written
          ∙ ap (λ r. line name_pitch_y (spelled (spelling_at (drop 8 (third_line bs)))) ++ r) (masks-right (last_line bs) (tests 3))));
    }

-- ---- the verdict

-- by its two rows
verdict-is : (bs : List ℕ)
    → settings_verdict bs ≡ cond (ltb (comma_place bs) (length bs)) (Refused Fault.Comma (comma_place bs)) (cond (settings_bad bs) (Refused Fault.Settings 0) Accepted)
unfolding settings_verdict settings_rows
verdict-is bs = refl

-- a text is accepted
written-accepted : (s : Settings) (bs : List ℕ) → Written s bs → settings_verdict bs ≡ Accepted
written-accepted s bs w =
    let all = written-place s bs w in
    verdict-is bs ∙ rw (le-ltb (comma_place bs) (length bs) (omega arith), written-good s bs w)

-- what is accepted is read as settings
accepted-good : (bs : List ℕ) → settings_verdict bs ≡ Accepted → settings_bad bs ≡ false
accepted-good bs v =
    let rest = (first-passed (ltb (comma_place bs) (length bs)) _ _ (sym (verdict-is bs) ∙ v)).1 in
    (first-passed (settings_bad bs) _ Accepted rest).0

-- a comma is refused at the first
comma-refused : (bs : List ℕ) (p : ℕ) → FirstComma bs p → settings_verdict bs ≡ Refused Fault.Comma p
comma-refused bs p f =
    let is : comma_place bs ≡ p = comma-place bs p f in
    verdict-is bs ∙ rw (is, lt-ltb p (length bs) f.within)

-- a verdict of 34 is of the first row
first-row : (t u : Bool) (c p : ℕ) → cond t (Refused Fault.Comma c) (cond u (Refused Fault.Settings 0) Accepted) ≡ Refused Fault.Comma p → (t ≡ true) × (c ≡ p)
first-row true u c p e = (refl, ap place_of e)
first-row false true c p e = let z : ◌≡◌ {A = ℕ} 35 34 = ap number_of e in absurd (omega arith)
first-row false false c p e = let z : ◌≡◌ {A = ℕ} 0 1 = cc in absurd (omega arith)

refused-comma : (bs : List ℕ) (p : ℕ) → settings_verdict bs ≡ Refused Fault.Comma p → FirstComma bs p
refused-comma bs p v =
    let at = first-row (ltb (comma_place bs) (length bs)) (settings_bad bs) (comma_place bs) p (sym (verdict-is bs) ∙ v) in
    subst (FirstComma bs) at.1 (comma-first bs (ltb-true (comma_place bs) (length bs) at.0))

-- bytes without a comma that are no text are refused by the second row
fault-refused : (bs : List ℕ) → ((p : ℕ) → FirstComma bs p → ⊥) → ((s : Settings) → Written s bs → ⊥) → settings_verdict bs ≡ Refused Fault.Settings 0
fault-refused bs f w =
    by_bool (ltb (comma_place bs) (length bs))
    (λ c. absurd (f (comma_place bs) (comma-first bs (ltb-true (comma_place bs) (length bs) c))))
    (λ c. by_bool (settings_bad bs)
    (λ b. verdict-is bs ∙ rw (c, b))
    (λ b. absurd (w (settings_in bs) (read-written bs b))))

-- verdicts that differ
not-both : (v : Verdict) (p : ℕ) → v ≡ Refused Fault.Comma p → v ≡ Refused Fault.Settings 0 → ⊥
not-both v p e f = let z : ◌≡◌ {A = ℕ} 34 35 = ap number_of (sym e ∙ f) in omega arith

not-accepted : (v : Verdict) → v ≡ Accepted → v ≡ Refused Fault.Settings 0 → ⊥
not-accepted v e f = let z : ◌≡◌ {A = ℕ} 0 1 = cc in omega arith

-- ---- the claims

pub all-settings : AllSettings
all-settings bs =
    record {
      reads = λ s. (
        λ w. (written-accepted s bs w, written_read s bs w),
        λ v. subst (λ r. Written r bs) v.1 (read-written bs (accepted-good bs v.0)),
      );
      one = λ s r w x. sym (written_read s bs w) ∙ written_read r bs x;
      comma = λ p. (comma-refused bs p, refused-comma bs p);
      fault = (
        λ f. fault-refused bs f.0 f.1,
        λ v. (
          λ p f. not-both (settings_verdict bs) p (comma-refused bs p f) v,
          λ s w. not-accepted (settings_verdict bs) (written-accepted s bs w) v,
        ),
      );
    }
