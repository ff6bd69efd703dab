-- A quote step by step, as the code takes them: the sheet, the composer's call, and the settings before both. Assumes nothing.
use Prim.Native.Nat.{ℕ, ◌≤◌, ◌<◌}
use mathlib.Core.Path.{◌≡◌, refl, sym, ◌∙◌, ap}
use mathlib.Core.List.{List, [], ◌++◌}
use mathlib.Core.Bool.{Bool}
use native.Mathlib.Omega.{arith}
use lib.ListN.{length}
use Rattle.std.specs.Prelude.{Result, Ok, Err}
use lib.IntN.{ℤ}
use Rattle.format.specs.declared.Release.{Release}
use Rattle.format.specs.Checks.{Verdict, Accepted, answer_if}
use Rattle.format.specs.declared.Refusal.{Refusal}
use Rattle.format.proofs.Firsts.{by-verdict}
use Rattle.plane.specs.Turns.{Kind, quick}
use Rattle.question.specs.Call.{Asked, call_verdict, answer, target_after, map_after, covered_in, Answered}
use Rattle.question.specs.declared.Counts.{Counts}
use Rattle.question.specs.declared.WindowRequest.{WindowRequest}
use Rattle.question.proofs.Lending.{lending-enough, lending-short, short-refused, covered-most}
use Rattle.compose.specs.Steps.{asked}
use Rattle.settings.specs.Settings.{masks_meant}
use Rattle.settings.specs.Reading.{settings_in}
use Rattle.settings.specs.Answers.{settings_verdict, SettingsRead}
use Rattle.settings.specs.declared.Settings.{Settings}
use Rattle.settings.proofs.Reading.{all-settings}
use Rattle.quote.specs.Quote.{QuoteAsked, request_with, quote_verdict, figures}
use Rattle.quote.specs.Quote.{verdict_of, count_of, sheet_for, quoted, quote_target, quote_map, quote_sheet, QuoteAnswered}
use Rattle.quote.specs.Steps.{quote_asked, Pitched, SheetWritten, lending_of, QuoteBy, ShortAsked, ShortRefused}
use Rattle.quote.specs.declared.QuoteRequest.{QuoteRequest}
use Rattle.quote.specs.declared.Figures.{Figures}
use Rattle.quote.proofs.Verdicts.{sheet-short, sheet-enough}

-- ---- an answer by its verdict

answered-refused : {A : Type 0} (v : Verdict) (x : A) (e : Refusal) → answer_if v x ≡ Err e → v ≡ Err e
answered-refused (Ok _) x e h = let z : ◌≡◌ {A = ℕ} 0 1 = cc in absurd (omega arith)
answered-refused (Err r) x e h = cc

answered-found : {A : Type 0} (v : Verdict) (x y : A) → answer_if v x ≡ Ok y → (v ≡ Accepted) × (x ≡ y)
answered-found (Ok _) x y h = (refl, cc)
answered-found (Err r) x y h = let z : ◌≡◌ {A = ℕ} 0 1 = cc in absurd (omega arith)

-- ---- a sheet that is too short

module _ (a : Asked) (t m t₀ m' : List ℕ) (r : Result Counts Refusal) where
  pub short-asked : Answered quick a [] m t₀ m' r → ShortAsked a t m (t₀ ++ t) m' r
  unfolding target_after map_after
  short-asked d =
      by-verdict (call_verdict a 0 (length m))
      (λ e. absurd (short-refused a 0 (length m) (lending-short a 0 (length m) ∙ e)))
      (λ f e.
      let nothing : t₀ ≡ [] = d.target_is ∙ rw e in
      record { answer_is = d.answer_is; target_is = rw nothing; map_is = d.map_is ∙ rw e })

module _ (a : Asked) (t m t' m' : List ℕ) (r : Result Counts Refusal) (d : ShortAsked a t m t' m' r) where
  pub short-stops : (e : Refusal) → r ≡ Err e → ShortRefused a t m t' m' e
  unfolding answer
  short-stops e h =
      let v = answered-refused (call_verdict a 0 (length m)) _ e (sym d.answer_is ∙ h) in
      record { refusal_is = lending-short a (length t) (length m) ∙ v; target_is = d.target_is; map_is = d.map_is }

  -- an empty target is never painted
  pub short-never : (c : Counts) (e : Refusal) → r ≡ Ok c → ShortRefused a t m t' m' e
  unfolding answer
  short-never c e h =
      let v = (answered-found (call_verdict a 0 (length m)) _ c (sym d.answer_is ∙ h)).0 in
      absurd (short-refused a 0 (length m) (lending-short a 0 (length m) ∙ v))

-- ---- a quote behind its settings

module _ (a : Asked) (s : Settings) (t m u t' m' : List ℕ) where
  pub by-short : (r : Refusal) → length u < 49 → ShortRefused a t m t' m' r → QuoteBy quick a s t m u t' m' u (Err r)
  by-short r h d =
      let b = sheet-short (length u) h in
      record {
        answer_is = rw (b, d.refusal_is);
        target_is = rw (b, d.refusal_is) d.target_is;
        map_is = rw (b, d.refusal_is) d.map_is;
        sheet-is = rw (b, d.refusal_is);
      }

  module _ (c : Result Counts Refusal) (h : 49 ≤ length u) (d : Answered quick a t m t' m' c) where
    lent : lending_of a t m u ≡ call_verdict a (length t) (length m)
    lent = rw (sheet-enough (length u) h) (lending-enough a (length t) (length m))

    -- the composer refuses
    pub by-refused : (r : Refusal) → c ≡ Err r → QuoteBy quick a s t m u t' m' u (Err r)
    unfolding answer target_after map_after
    by-refused r e =
        let v = answered-refused (call_verdict a (length t) (length m)) _ r (sym d.answer_is ∙ e) in
        let l = lent ∙ v in
        record {
          answer_is = rw l;
          target_is = d.target_is ∙ rw (l, v);
          map_is = d.map_is ∙ rw (l, v);
          sheet-is = rw l;
        }

    -- it counts, and that is written on the sheet
    module _ (n : Counts) (e : c ≡ Ok n) where
      pub count_most : n.covered ≤ 4294967296
      count_most = let most : covered_in c ≤ 4294967296 = rw d.answer_is (covered-most quick a t m) in rw e at most

      pub by-written : (u' : List ℕ) (w : ℕ) → SheetWritten s n.covered u u' w → QuoteBy quick a s t m u t' m' u' (Ok (figures n.covered w))
      unfolding answer target_after map_after
      by-written u' w f =
          let g = sym d.answer_is ∙ e in
          let l = lent ∙ (answered-found (call_verdict a (length t) (length m)) _ n g).0 in
          let is : covered_in (answer quick a t m) ≡ n.covered = ap covered_in g in
          record {
            answer_is = rw (l, is, f.length_is);
            target_is = rw l d.target_is;
            map_is = rw l d.map_is;
            sheet-is = rw (l, is) f.sheet-is;
          }

-- ---- the settings

pub pitched : (bs : List ℕ) (r : Result Settings Refusal) (x : Settings) → SettingsRead bs r → r ≡ Ok x → Pitched x
pitched bs r x d e =
    let w = ((all-settings bs).reads x).1 (answered-found (settings_verdict bs) (settings_in bs) x (sym d.answer_is ∙ e)) in
    record { x_most = w.x-spelled.most; y_most = w.y-spelled.most }

-- ---- a whole quote

module _ (q : QuoteAsked) (t m u : List ℕ) (r : Result Settings Refusal) (d : SettingsRead q.settings r) where
  pub quote-refused : (f : Refusal) → r ≡ Err f → QuoteAnswered quick q t m u t m u (Err f)
  unfolding quote_verdict quoted quote_target quote_map quote_sheet
  quote-refused f e =
      let v = answered-refused (settings_verdict q.settings) (settings_in q.settings) f (sym d.answer_is ∙ e) in
      record {
        answer_is = rw v;
        number_is = rw v;
        place_is = rw v;
        covered-is = rw v;
        length_is = rw v;
        target_is = rw v;
        map_is = rw v;
        sheet-is = rw v;
      }

pub quote-answered : {k : Kind} (q : QuoteAsked) (t m u t' m' u' : List ℕ) (z : Result Figures Refusal) → z ≡ quoted k q t m u → t' ≡ quote_target k q t m u
    → m' ≡ quote_map k q t m u → u' ≡ quote_sheet k q t m u → QuoteAnswered k q t m u t' m' u' z
unfolding quoted
quote-answered {k} q t m u t' m' u' z a b c d =
    by-verdict (verdict_of q t m u)
    (λ e. record {
      answer_is = a;
      number_is = rw (a, e);
      place_is = rw (a, e);
      covered-is = rw (a, e);
      length_is = rw (a, e);
      target_is = b;
      map_is = c;
      sheet-is = d;
    })
    (λ f e. record {
      answer_is = a;
      number_is = rw (a, e);
      place_is = rw (a, e);
      covered-is = rw (a, e);
      length_is = rw (a, e);
      target_is = b;
      map_is = c;
      sheet-is = d;
    })

pub quote-settled : (bs : List ℕ) (rel : Release) (starts : List ℤ) (any_scene : Bool) (f : QuoteRequest) (background settings : List ℕ)
    (t m u t' m' u' : List ℕ) (r : Result Settings Refusal) (x : Settings) (g : WindowRequest) (z : Result Figures Refusal)
    → SettingsRead settings r → r ≡ Ok x → g ≡ request_with (masks_meant x.edition x.masks) f
    → QuoteBy quick (asked bs rel starts any_scene g background) x t m u t' m' u' z
    → QuoteAnswered quick (quote_asked bs rel starts any_scene f background settings) t m u t' m' u' z
unfolding quote_verdict quoted quote_target quote_map quote_sheet sheet_for count_of
quote-settled bs rel starts any_scene f background settings t m u t' m' u' r x g z d e h b =
    let found = answered-found (settings_verdict settings) (settings_in settings) x (sym d.answer_is ∙ e) in
    quote-answered (quote_asked bs rel starts any_scene f background settings) t m u t' m' u' z
    (rw (found.0, found.1, ← h) b.answer_is)
    (rw (found.0, found.1, ← h) b.target_is)
    (rw (found.0, found.1, ← h) b.map_is)
    (rw (found.0, found.1, ← h) b.sheet-is)
