-- A quote by its verdict: what the settings and the composer make of it, and what it then answers and leaves. Assumes nothing.
use Prim.Native.Nat.{ℕ, ◌≤◌, ◌<◌}
use mathlib.Core.Path.{◌≡◌, refl, sym, ◌∙◌}
use mathlib.Core.List.{List}
use mathlib.Core.Bool.{Bool, true, false}
use lib.ListN.{length}
use Rattle.std.specs.Prelude.{Ok, Err}
use borrow.Author.Tests.{lt-ltb, le-ltb, ltb-false}
use Rattle.format.specs.Checks.{Accepted, Refused}
use Rattle.format.specs.declared.Fault.TheVariants as Fault
use Rattle.format.specs.declared.Refusal.{Refusal}
use Rattle.format.proofs.Firsts.{then-both}
use Rattle.plane.specs.Turns.{Kind}
use Rattle.question.specs.Call.{call_verdict, lending_verdict, answer, target_after, map_after, covered_in}
use Rattle.question.proofs.Lending.{lending-enough, lending-short, short-refused, short-is-22}
use Rattle.settings.specs.Reading.{settings_in}
use Rattle.settings.specs.Answers.{settings_verdict}
use Rattle.settings.specs.declared.Settings.{Settings}
use Rattle.quote.specs.Quote.{QuoteAsked, asked_with, sheet_bad, quote_verdict, sheet_text, overlaid, figures}
use Rattle.quote.specs.Quote.{verdict_of, count_of, sheet_for, quoted, quote_target, quote_map, quote_sheet}

-- a sheet under 49 bytes is too short
pub sheet-short : (n : ℕ) → n < 49 → sheet_bad n ≡ true
unfolding sheet_bad
sheet-short n h = lt-ltb n 49 h

pub sheet-enough : (n : ℕ) → 49 ≤ n → sheet_bad n ≡ false
unfolding sheet_bad
sheet-enough n h = le-ltb n 49 h

sheet-long : (n : ℕ) → sheet_bad n ≡ false → 49 ≤ n
unfolding sheet_bad
sheet-long n e = ltb-false n 49 e

-- the settings are accepted, and read as s
abbrev pub Read : QuoteAsked → Settings → Type 0
Read q s = (settings_verdict q.settings ≡ Accepted) × (settings_in q.settings ≡ s)

module _ (q : QuoteAsked) (t m u : List ℕ) where
  -- ---- the verdict

  -- refused settings decide
  pub settings-stop : (r : Refusal) → settings_verdict q.settings ≡ Err r → verdict_of q t m u ≡ Err r
  unfolding quote_verdict
  settings-stop r e = rw e

  -- accepted ones leave it to the composer
  settled : (s : Settings) → Read q s → verdict_of q t m u ≡ lending_verdict (asked_with s q) (length t) (length m) (sheet_bad (length u))
  unfolding quote_verdict
  settled s r = rw (r.0, r.1)

  pub settled-enough : (s : Settings) → Read q s → 49 ≤ length u → verdict_of q t m u ≡ call_verdict (asked_with s q) (length t) (length m)
  settled-enough s r h = settled s r ∙ rw (sheet-enough (length u) h) (lending-enough (asked_with s q) (length t) (length m))

  -- with a short sheet the verdict is that of an empty target, and never acceptance
  lends-short : (s : Settings) → Read q s → length u < 49 → verdict_of q t m u ≡ lending_verdict (asked_with s q) (length t) (length m) true
  lends-short s r h = settled s r ∙ rw (sheet-short (length u) h)

  pub settled-short : (s : Settings) → Read q s → length u < 49
      → (verdict_of q t m u ≡ call_verdict (asked_with s q) 0 (length m)) × (verdict_of q t m u ≡ Accepted → ⊥)
      × ((target map : ℕ) → call_verdict (asked_with s q) target map ≡ Accepted → verdict_of q t m u ≡ Refused Fault.LentTooShort 0)
  settled-short s r h = (
    lends-short s r h ∙ lending-short (asked_with s q) (length t) (length m),
    λ e. short-refused (asked_with s q) (length t) (length m) (sym (lends-short s r h) ∙ e),
    λ target map e. lends-short s r h ∙ short-is-22 (asked_with s q) (length t) (length m) target map e,
  )

  -- ---- an accepted quote

  module _ (e : verdict_of q t m u ≡ Accepted) where
    pub settings-accepted : settings_verdict q.settings ≡ Accepted
    unfolding quote_verdict
    settings-accepted = (then-both (settings_verdict q.settings) _ e).0

    module _ (s : Settings) (is : settings_in q.settings ≡ s) where
      -- the sheet has room, and the composer accepts
      both : (bad : Bool) → sheet_bad (length u) ≡ bad → lending_verdict (asked_with s q) (length t) (length m) bad ≡ Accepted
          → (49 ≤ length u) × (call_verdict (asked_with s q) (length t) (length m) ≡ Accepted)
      both true b v = absurd (short-refused (asked_with s q) (length t) (length m) v)
      both false b v = (sheet-long (length u) b, sym (lending-enough (asked_with s q) (length t) (length m)) ∙ v)

      parts : (49 ≤ length u) × (call_verdict (asked_with s q) (length t) (length m) ≡ Accepted)
      parts = both (sheet_bad (length u)) refl (sym (settled s (settings-accepted, is)) ∙ e)

      pub room : 49 ≤ length u
      room = parts.0

      pub composes : call_verdict (asked_with s q) (length t) (length m) ≡ Accepted
      composes = parts.1

      -- what it answers and leaves, by the composer k
      module _ (k : Kind) where
        pub quoted-is : quoted k q t m u
            ≡ Ok (figures (covered_in (answer k (asked_with s q) t m)) (length (sheet_text s (covered_in (answer k (asked_with s q) t m)))))
        unfolding quoted sheet_for count_of
        quoted-is = rw (e, is)

        pub target_is : quote_target k q t m u ≡ target_after k (asked_with s q) t m
        unfolding quote_target
        target_is = rw (e, is)

        pub map_is : quote_map k q t m u ≡ map_after k (asked_with s q) t m
        unfolding quote_map
        map_is = rw (e, is)

        pub sheet-is : quote_sheet k q t m u ≡ overlaid (sheet_text s (covered_in (answer k (asked_with s q) t m))) u
        unfolding quote_sheet sheet_for count_of
        sheet-is = rw (e, is)
