-- What a quote is, entire: of any file bytes, any question, any settings and any lent bytes. It cites demand 3 and what settings are.
use Prim.Native.Nat.{ℕ, ◌+◌, ◌*◌, ◌^◌, ◌≤◌, ◌<◌}
use mathlib.Core.Path.{◌≡◌, refl, sym, ap, ap₂, subst, ◌∙◌}
use mathlib.Core.List.{List}
use native.Mathlib.Nat.{le_trans}
use lib.ListN.{length}
use Rattle.format.specs.Checks.{Accepted, Refused, number}
use Rattle.format.specs.declared.Fault.{Fault}
use Rattle.plane.specs.Turns.{Kind, plain, quick}
use Rattle.plane.specs.Cuts.{Line}
use Rattle.question.specs.Call.{call_verdict, answer, number_in, place_in, covered_in}
use Rattle.question.specs.Demand3.{Int32, fore_of, rear_of, RoomFor, Demand3}
use Rattle.question.proofs.Demand3.{all-calls}
use Rattle.question.proofs.Lending.{covered-most}
use Rattle.settings.specs.Reading.{settings_in}
use Rattle.settings.specs.declared.Settings.{Settings}
use Rattle.settings.proofs.Reading.{all-settings}
use Rattle.quote.specs.Quote.{QuoteAsked, asked_with, area_of, sheet_text, verdict_of, count_of, sheet_for}
use Rattle.quote.specs.Quote.{quoted_covered, quoted_length, quoted, quote_target, quote_map, quote_sheet}
use Rattle.quote.specs.Claims.{fore_quote, rear_quote, AllQuotes, AgreeQuotes}
use Rattle.quote.proofs.Sheets.{area-fits, area-adds, text-most, lines-overlaid, lines-length, overlaid-length}
use Rattle.quote.proofs.Verdicts.{Read, settings-stop, settled-enough, settled-short, settings-accepted}
use Rattle.quote.proofs.Verdicts.{room, composes, quoted-is, target_is, map_is, sheet-is}
use Rattle.quote.proofs.Cutting.{fore-asked, rear-asked, rear-left, rear-top}

-- ---- an accepted quote whose settings are s

module _ (q : QuoteAsked) (t m u : List ℕ) (e : verdict_of q t m u ≡ Accepted) (s : Settings) (is : settings_in q.settings ≡ s) (k : Kind) where
  covered-is : quoted_covered (quoted k q t m u) ≡ covered_in (answer k (asked_with s q) t m)
  covered-is = rw (quoted-is q t m u e s is k)

  -- the area fits 64 bits, and the text 49 bytes
  fitting : s.pitch_x ≤ 65535 → s.pitch_y ≤ 65535
      → (quoted_covered (quoted k q t m u) * s.pitch_x * s.pitch_y < 2 ^ 64) × (quoted_length (quoted k q t m u) ≤ 49)
  unfolding area_of
  fitting x y =
      let c = covered_in (answer k (asked_with s q) t m) in
      let most = covered-most k (asked_with s q) t m in
      rw (quoted-is q t m u e s is k) (area-fits s c most x y, text-most s c most)

  sheet-length : length (quote_sheet k q t m u) ≡ length u
  sheet-length =
      let c = covered_in (answer k (asked_with s q) t m) in
      let most = text-most s c (covered-most k (asked_with s q) t m) in
      rw (sheet-is q t m u e s is k) (overlaid-length (sheet_text s c) u (le_trans most (room q t m u e s is)))

-- ---- a refused quote

module _ (q : QuoteAsked) (t m u : List ℕ) (f : Fault) (p : ℕ) (e : verdict_of q t m u ≡ Refused f p) (k : Kind) where
  refused-is : (number_in (quoted k q t m u) ≡ number f) × (place_in (quoted k q t m u) ≡ p)
      × (quoted_covered (quoted k q t m u) ≡ 0) × (quoted_length (quoted k q t m u) ≡ 0)
      × (quote_target k q t m u ≡ t) × (quote_map k q t m u ≡ m) × (quote_sheet k q t m u ≡ u)
  unfolding quoted quote_target quote_map quote_sheet
  refused-is = rw e (refl, refl, refl, refl, refl, refl, refl)

-- ---- the two composers

module _ (q : QuoteAsked) (left : Int32 q.request.left) (top : Int32 q.request.top) (t m : List ℕ) where
  -- demand 3 of what the composer is asked
  calls : (s : Settings) → Demand3 (asked_with s q) t m
  calls s = all-calls (asked_with s q) left top t m

  same_count : count_of plain q t m ≡ count_of quick q t m
  unfolding count_of
  same_count = (calls (settings_in q.settings)).same_covered

  module _ (u : List ℕ) where
    same_answer : quoted plain q t m u ≡ quoted quick q t m u
    unfolding quoted sheet_for
    same_answer = rw same_count

    same_target : quote_target plain q t m u ≡ quote_target quick q t m u
    unfolding quote_target
    same_target = rw (calls (settings_in q.settings)).same_target

    same_map : quote_map plain q t m u ≡ quote_map quick q t m u
    unfolding quote_map
    same_map = rw (calls (settings_in q.settings)).same_map

    same-sheet : quote_sheet plain q t m u ≡ quote_sheet quick q t m u
    unfolding quote_sheet sheet_for
    same-sheet = rw same_count

-- ---- a cut window: a half of the quote that its composer accepts, and what it counts

module _ (s : Settings) (l : Line) (q : QuoteAsked) (r : Read q s) (t m u : List ℕ) (enough : 49 ≤ length u) where
  module _ (e : call_verdict (fore_of l (asked_with s q)) (length t) (length m) ≡ Accepted) where
    fore-accepted : verdict_of (fore_quote l q) t m u ≡ Accepted
    fore-accepted = settled-enough (fore_quote l q) t m u s r enough ∙ rw (fore-asked s l q) e

    fore-covered : (k : Kind) → quoted_covered (quoted k (fore_quote l q) t m u) ≡ covered_in (answer k (fore_of l (asked_with s q)) t m)
    fore-covered k = covered-is (fore_quote l q) t m u fore-accepted s r.1 k ∙ rw (fore-asked s l q)

  module _ (e : call_verdict (rear_of l (asked_with s q)) (length t) (length m) ≡ Accepted) where
    rear-accepted : verdict_of (rear_quote l q) t m u ≡ Accepted
    rear-accepted = settled-enough (rear_quote l q) t m u s r enough ∙ rw (rear-asked s l q) e

    rear-covered : (k : Kind) → quoted_covered (quoted k (rear_quote l q) t m u) ≡ covered_in (answer k (rear_of l (asked_with s q)) t m)
    rear-covered k = covered-is (rear_quote l q) t m u rear-accepted s r.1 k ∙ rw (rear-asked s l q)

-- ---- all of it

pub all-quotes : AllQuotes
unfolding area_of
all-quotes q left top t m u =
    let bs = all-settings q.settings in
    record {
      comma = λ p c. settings-stop q t m u _ ((bs.comma p).0 c);
      fault = λ no none. settings-stop q t m u _ (bs.fault.0 (no, none));
      settled = λ s w. settled-enough q t m u s ((bs.reads s).0 w);
      short = λ s w. settled-short q t m u s ((bs.reads s).0 w);
      refused = refused-is q t m u;
      accepted = λ e s w k.
          let is = ((bs.reads s).0 w).1 in
          let c = covered_in (answer k (asked_with s q) t m) in
          let d = (calls q left top t m s).accepted (composes q t m u e s is) k in (
            covered-is q t m u e s is k ∙ d.3,
            rw (quoted-is q t m u e s is k, sheet-is q t m u e s is k) (lines-overlaid s c u),
            rw (quoted-is q t m u e s is k) (lines-length s c),
            sheet-length q t m u e s is k,
            target_is q t m u e s is k,
            map_is q t m u e s is k,
            rw (target_is q t m u e s is k, map_is q t m u e s is k) d.1,
          );
      readable = λ e. (settings_in q.settings, (bs.reads (settings_in q.settings)).1 (settings-accepted q t m u e, refl));
      fits = λ e s w k. fitting q t m u e s ((bs.reads s).0 w).1 k w.x-spelled.most w.y-spelled.most;
      same_answer = same_answer q left top t m u;
      same_target = same_target q left top t m u;
      same_map = same_map q left top t m u;
      same-sheet = same-sheet q left top t m u;
      cut = λ e s w l c k k₁ k₂ t₁ m₁ u₁ t₂ m₂ u₂ r₁ long₁ r₂ long₂.
          let r = (bs.reads s).0 w in
          let v = composes q t m u e s r.1 in
          let room₁ : RoomFor (fore_of l (asked_with s q)) t₁ m₁ = rw (fore-asked s l q) at r₁ in
          let room₂ : RoomFor (rear_of l (asked_with s q)) t₂ m₂ = rw (rear-asked s l q) at r₂ in
          let d = (calls q left top t m s).cut v l c k k₁ k₂ t₁ m₁ t₂ m₂ room₁ room₂ in
          let n₁ = fore-covered s l q r t₁ m₁ u₁ long₁ d.5 k₁ in
          let n₂ = rear-covered s l q r t₂ m₂ u₂ long₂ d.6 k₂ in
          let adds = covered-is q t m u e s r.1 k ∙ d.9 ∙ ap₂ (λ (n n' : ℕ). n + n') (sym n₁) (sym n₂) in (
            fore-accepted s l q r t₁ m₁ u₁ long₁ d.5,
            rear-accepted s l q r t₂ m₂ u₂ long₂ d.6,
            subst Int32 (rear-left s l q) d.1,
            subst Int32 (rear-top s l q) d.2,
            adds,
            ap (area_of s) adds ∙ area-adds s _ _,
          );
    }

pub agree-quotes : AgreeQuotes
agree-quotes q left top t m u t₁ m₁ u₁ t₂ m₂ u₂ r₁ r₂ p p' = (
  p.answer_is ∙ same_answer q left top t m u ∙ sym p'.answer_is,
  p.target_is ∙ same_target q left top t m u ∙ sym p'.target_is,
  p.map_is ∙ same_map q left top t m u ∙ sym p'.map_is,
  p.sheet-is ∙ same-sheet q left top t m u ∙ sym p'.sheet-is,
)
