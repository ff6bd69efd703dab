-- The lines of settings, as the code finds them one behind the other. Assumes nothing.
use Prim.Native.Nat.{ℕ}
use mathlib.Core.Path.{◌≡◌, refl, sym, ◌∙◌}
use mathlib.Core.List.{List, [], ◌∷◌}
use mathlib.Core.Bool.{true, false, cond}
use lib.Dec.{eqb}
use borrow.Author.Tests.{ne_eqb}
use native.Mathlib.Omega.{arith}
use lib.ListN.{length, drop, take}
use lib.Pointwise.{pointwise}
use Rattle.std.specs.Prelude.{nat_eq, Option, None, Some}
use Rattle.format.specs.Bytes.{any_of}
use Rattle.text.specs.Text.{line}
use Rattle.question.specs.declared.Masks.{Masks}
use Rattle.question.specs.declared.Masks.TheVariants.{NotChosen, On, Off}
use Rattle.format.specs.Container.{same_bytes}
use Rattle.settings.specs.Settings.{name_edition, name_pitch_x, name_pitch_y, masks_line}
use Rattle.settings.specs.Reading.{second_line, third_line, last_line, settings_bad, settings_in}
use Rattle.settings.specs.declared.Edition.{Edition}
use Rattle.settings.specs.declared.Settings.{Settings}
use Rattle.settings.specs.Reading.{behind_pitch, pitch_at, pitch_bad, edition_bad, edition_at, pitch_line_bad, behind_pitch_line, masks_bad, masks_at}
use Rattle.settings.specs.declared.Edition.TheVariants.{First, Second}
use Rattle.settings.proofs.Finding.{begins-is}

-- ---- the edition's line

module _ (bs : List ℕ) where
  abbrev edition-line : ℕ → List ℕ
  edition-line n = line name_edition (n ∷ [])

  pub first-edition : pointwise nat_eq (take (length (edition-line 49)) bs) (edition-line 49) ≡ true → (edition_bad bs ≡ false) × (First ≡ edition_at bs)
  unfolding edition_bad edition_at any_of
  first-edition e = let b = begins-is (edition-line 49) bs ∙ e in (rw b, rw b)

  module _ (e : pointwise nat_eq (take (length (edition-line 49)) bs) (edition-line 49) ≡ false) where
    pub no-edition : pointwise nat_eq (take (length (edition-line 50)) bs) (edition-line 50) ≡ false → edition_bad bs ≡ true
    unfolding edition_bad any_of
    no-edition f = rw (begins-is (edition-line 49) bs ∙ e, begins-is (edition-line 50) bs ∙ f)

    pub second-edition : pointwise nat_eq (take (length (edition-line 50)) bs) (edition-line 50) ≡ true → (edition_bad bs ≡ false) × (Second ≡ edition_at bs)
    unfolding edition_bad edition_at any_of
    second-edition f = let b = begins-is (edition-line 49) bs ∙ e in (rw (b, begins-is (edition-line 50) bs ∙ f), rw b)

-- ---- a pitch's line: x stands behind its name, and y behind its pitch

module _ (name bs : List ℕ) (eight : length name ≡ 8) where
  pub no-name : pointwise nat_eq (take (length name) bs) name ≡ false → pitch_line_bad name bs ≡ true
  unfolding pitch_line_bad any_of
  no-name e = rw (begins-is name bs ∙ e)

  module _ (e : pointwise nat_eq (take (length name) bs) name ≡ true) (x : List ℕ) (g : x ≡ drop (length name) bs) where
    behind-name : drop 8 bs ≡ x
    behind-name = rw (← eight) (sym g)

    pub no-pitch : pitch_bad x ≡ true → pitch_line_bad name bs ≡ true
    unfolding pitch_line_bad any_of
    no-pitch h = rw (begins-is name bs ∙ e, behind-name, h)

    pub line-pitch : (n : ℕ) → n ≡ pitch_at x → n ≡ pitch_at (drop 8 bs)
    line-pitch n h = rw behind-name h

    module _ (y : List ℕ) (h : y ≡ behind_pitch x) where
      pub line-behind : (z : List ℕ) → z ≡ drop 1 y → z ≡ behind_pitch_line bs
      unfolding behind_pitch_line
      line-behind z k = rw (behind-name, ← h) k

      module _ (right : pitch_bad x ≡ false) where
        pub no-end : pointwise nat_eq (take 1 y) (10 ∷ []) ≡ false → pitch_line_bad name bs ≡ true
        unfolding pitch_line_bad any_of
        no-end k = rw (begins-is name bs ∙ e, behind-name, right, ← h, begins-is (10 ∷ []) y ∙ k)

        pub line-right : pointwise nat_eq (take 1 y) (10 ∷ []) ≡ true → pitch_line_bad name bs ≡ false
        unfolding pitch_line_bad any_of
        line-right k = rw (begins-is name bs ∙ e, behind-name, right, ← h, begins-is (10 ∷ []) y ∙ k)

-- ---- the masks line

same-is : (bs m : List ℕ) → same_bytes bs m ≡ pointwise nat_eq bs m
unfolding same_bytes
same-is [] [] = refl
same-is [] (y ∷ ys) = refl
same-is (x ∷ xs) [] = refl
same-is (x ∷ xs) (y ∷ ys) = rw (same-is xs ys)

nothing-is : (bs : List ℕ) → same_bytes bs [] ≡ eqb (length bs) 0
unfolding same_bytes
nothing-is [] = refl
nothing-is (x ∷ xs) = sym (ne_eqb (length (x ∷ xs)) 0 (λ z. omega arith))

module _ (bs : List ℕ) where
  pub masks-lacking : eqb (length bs) 0 ≡ true → (masks_bad bs ≡ false) × (NotChosen ≡ masks_at bs)
  unfolding masks_bad masks_at any_of masks_line
  masks-lacking e = let n = nothing-is bs ∙ e in (rw n, rw n)

  module _ (some : eqb (length bs) 0 ≡ false) where
    pub masks-on : pointwise nat_eq bs (masks_line On) ≡ true → (masks_bad bs ≡ false) × (On ≡ masks_at bs)
    unfolding masks_bad masks_at any_of masks_line
    masks-on e =
        let n = nothing-is bs ∙ some in
        let o = same-is bs (masks_line On) ∙ e in
        (rw (n, o), rw (n, o))

    module _ (not_on : pointwise nat_eq bs (masks_line On) ≡ false) where
      pub masks-off : pointwise nat_eq bs (masks_line Off) ≡ true → (masks_bad bs ≡ false) × (Off ≡ masks_at bs)
      unfolding masks_bad masks_at any_of masks_line
      masks-off e =
          let n = nothing-is bs ∙ some in
          let o = same-is bs (masks_line On) ∙ not_on in
          (rw (n, o, same-is bs (masks_line Off) ∙ e), rw (n, o))

      pub masks-wrong : pointwise nat_eq bs (masks_line Off) ≡ false → masks_bad bs ≡ true
      unfolding masks_bad any_of masks_line
      masks-wrong e = rw (nothing-is bs ∙ some, same-is bs (masks_line On) ∙ not_on, same-is bs (masks_line Off) ∙ e)

-- ---- one line behind the other: behind the edition's stands x, behind the first pitch's y, behind the second's z

module _ (bs : List ℕ) where
  abbrev Answer : Option Settings → Type 0
  Answer r = r ≡ cond (settings_bad bs) None (Some (settings_in bs))

  pub stops-at-edition : edition_bad bs ≡ true → Answer None
  unfolding settings_bad any_of
  stops-at-edition e = rw e

  module _ (e : edition_bad bs ≡ false) (x : List ℕ) (g : x ≡ drop 10 bs) where
    pub stops-at-x : pitch_line_bad name_pitch_x x ≡ true → Answer None
    unfolding settings_bad any_of second_line
    stops-at-x f = rw (e, ← g, f)

    module _ (f : pitch_line_bad name_pitch_x x ≡ false) (y : List ℕ) (h : y ≡ behind_pitch_line x) where
      pub stops-at-y : pitch_line_bad name_pitch_y y ≡ true → Answer None
      unfolding settings_bad any_of second_line third_line
      stops-at-y k = rw (e, ← g, f, ← h, k)

      module _ (k : pitch_line_bad name_pitch_y y ≡ false) (z : List ℕ) (l : z ≡ behind_pitch_line y) where
        pub stops-at-masks : masks_bad z ≡ true → Answer None
        unfolding settings_bad any_of second_line third_line last_line
        stops-at-masks m = rw (e, ← g, f, ← h, k, ← l, m)

        pub settings-are : masks_bad z ≡ false → (d : Edition) (m n : ℕ) (c : Masks) → d ≡ edition_at bs → m ≡ pitch_at (drop 8 x) → n ≡ pitch_at (drop 8 y)
            → c ≡ masks_at z → Answer (Some (record { edition = d; pitch_x = m; pitch_y = n; masks = c }))
        unfolding settings_bad any_of second_line third_line last_line settings_in
        settings-are o d m n c p q r s = rw (e, ← g, f, ← h, k, ← l, o, p, q, r, s)
