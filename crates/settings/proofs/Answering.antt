-- What reading answers, by the first comma and by the lines. Assumes nothing.
use Prim.Native.Nat.{ℕ, suc, ◌+◌}
use mathlib.Core.Path.{◌≡◌, refl, sym, ◌∙◌, ap}
use mathlib.Core.List.{List, [], ◌∷◌}
use mathlib.Core.Bool.{Bool, true, false, cond}
use native.Mathlib.Omega.{arith}
use lib.ListN.{length}
use lib.Dec.{eqb, ltb}
use Rattle.std.specs.Prelude.{Option, None, Some, position, Result, Err}
use Rattle.std.specs.List.{position_or_len}
use Rattle.std.specs.Option.{ok_or}
use Rattle.format.specs.Checks.{refusal}
use Rattle.format.specs.declared.Fault.TheVariants as Fault
use Rattle.format.specs.declared.Refusal.{Refusal}
use Rattle.format.specs.Markup.{front}
use Rattle.format.proofs.Below.{by_bool}
use Rattle.markup.specs.Stretches.{other_than}
use Rattle.settings.specs.Reading.{settings_bad, settings_in}
use Rattle.settings.specs.Answers.{comma_place, settings_rows, settings_verdict, SettingsRead}
use Rattle.settings.specs.declared.Settings.{Settings}

-- ---- the first comma, as the library finds it

abbrev is_comma : ℕ → Bool
is_comma b = eqb b 44

front-before : (bs : List ℕ) → length (front (other_than 44) bs) ≡ position_or_len is_comma bs
unfolding front other_than
front-before [] = refl
front-before (b ∷ bs) =
    let one : 1 + position_or_len is_comma bs ≡ suc (position_or_len is_comma bs) = omega arith in
    by_bool (eqb b 44) (λ e. rw e) (λ e. rw (e, one) (ap suc (front-before bs)))

position-is : (bs : List ℕ) → position is_comma bs ≡ cond (ltb (comma_place bs) (length bs)) (Some (comma_place bs)) None
unfolding comma_place
position-is bs = rw (front-before bs)

some-if : (t : Bool) (n p : ℕ) → cond t (Some n) None ≡ Some p → (t ≡ true) × (n ≡ p)
some-if true n p e = (refl, cc)
some-if false n p e = let z : ◌≡◌ {A = ℕ} 0 1 = cc in absurd (omega arith)

none_if : (t : Bool) (n : ℕ) → ◌≡◌ {A = Option ℕ} (cond t (Some n) None) None → t ≡ false
none_if true n e = let z : ◌≡◌ {A = ℕ} 0 1 = cc in absurd (omega arith)
none_if false n e = refl

-- ---- the answer

module _ (bs : List ℕ) (r : Option ℕ) (i : r ≡ position is_comma bs) where
  pub comma-refused : (p : ℕ) → r ≡ Some p → SettingsRead bs (Err (refusal Fault.Comma p))
  unfolding settings_verdict settings_rows
  comma-refused p e =
      let at = some-if (ltb (comma_place bs) (length bs)) (comma_place bs) p (sym (position-is bs) ∙ (sym i ∙ e)) in
      record { answer_is = rw (at.0, at.1); number_is = rw at.0; place_is = rw (at.0, at.1) }

  module _ (e : r ≡ None) where
    none : ltb (comma_place bs) (length bs) ≡ false
    none = none_if _ (comma_place bs) (sym (position-is bs) ∙ (sym i ∙ e))

    pub settings-read : (o : Option Settings) → o ≡ cond (settings_bad bs) None (Some (settings_in bs)) → (a : Result Settings Refusal)
        → a ≡ ok_or o (refusal Fault.Settings 0) → SettingsRead bs a
    unfolding settings_verdict settings_rows
    settings-read o f a g =
        by_bool (settings_bad bs)
        (λ h. rw (g, f, h) (record { answer_is = rw (none, h); number_is = rw (none, h); place_is = rw (none, h) }))
        (λ h. rw (g, f, h) (record { answer_is = rw (none, h); number_is = rw (none, h); place_is = rw (none, h) }))
