-- What is claimed of a quote, about any call (`proofs/Quotes` proves it from demand 3 and from what settings are), and of its numbers (`proofs/Decimals`).
use Rattle.std.specs.Prelude.{ℕ, ◌+◌, ◌*◌, ◌^◌, ◌≤◌, ◌<◌, ◌≡◌, List, ◌++◌, true, length, drop, Result}
use Rattle.format.specs.Markup.{every}
use Rattle.format.specs.Checks.{Accepted, Refused, number}
use Rattle.format.specs.declared.Fault.{Fault}
use Rattle.format.specs.declared.Refusal.{Refusal}
use Rattle.plane.specs.Tiles.{within, covered}
use Rattle.plane.specs.Turns.{Kind, plain, quick}
use Rattle.plane.specs.Demand2.{Plane}
use Rattle.plane.specs.Cuts.{Line, Cuts}
use Rattle.text.specs.Text.{decimal, line}
use Rattle.question.specs.Call.{call_verdict, asked_window, asked_bytes, selected, target_after, map_after, number_in, place_in}
use Rattle.question.specs.Demand3.{Int32, fore_request, rear_request, RoomFor}
use Rattle.question.specs.declared.Masks.TheVariants.{NotChosen}
use Rattle.question.specs.declared.WindowRequest.{WindowRequest}
use Rattle.settings.specs.Settings.{digit, digits_value, Written, FirstComma}
use Rattle.settings.specs.declared.Settings.{Settings}
use Rattle.quote.specs.Quote.{QuoteAsked, asked_with, request_with, name_covered, name_area, quoted_covered, quoted_length}
use Rattle.quote.specs.Quote.{verdict_of, quoted, quote_target, quote_map, quote_sheet, QuoteAnswered}
use Rattle.quote.specs.declared.QuoteRequest.{QuoteRequest}
use Rattle.quote.specs.declared.Figures.{Figures}

-- ---- a straight line cuts the window of a quote into two, as demand 3 cuts a composer's: everything else, its settings too, is given as the whole's was

abbrev pub without_masks : WindowRequest → QuoteRequest
without_masks f = record { pixel_type = f.pixel_type; left = f.left; top = f.top; width = f.width; height = f.height }

abbrev pub with_request : QuoteAsked → QuoteRequest → QuoteAsked
with_request q f =
    record { scan = q.scan; starts = q.starts; any_scene = q.any_scene; request = f; background = q.background; settings = q.settings }

-- a half's request has no masks choice, so it does not matter which is cut
abbrev pub fore_quote : Line → QuoteAsked → QuoteAsked
fore_quote l q = with_request q (without_masks (fore_request l (request_with NotChosen q.request)))

abbrev pub rear_quote : Line → QuoteAsked → QuoteAsked
rear_quote l q = with_request q (without_masks (rear_request l (request_with NotChosen q.request)))

-- ---- the claim, of what is asked and of the lent target t, map m and sheet u

pub record QuoteClaims (q : QuoteAsked) (t m u : List ℕ) : Type 0 where
  -- the settings go before the file: a comma is 34 at the first, what is no text of any settings is 35 at 0
  pub comma : (p : ℕ) → FirstComma q.settings p → verdict_of q t m u ≡ Refused Fault.Comma p
  pub fault : ((p : ℕ) → FirstComma q.settings p → ⊥) → ((s : Settings) → Written s q.settings → ⊥) → verdict_of q t m u ≡ Refused Fault.Settings 0
  -- then a composer's refusals, with the masks choice that the settings come to
  pub settled : (s : Settings) → Written s q.settings → 49 ≤ length u → verdict_of q t m u ≡ call_verdict (asked_with s q) (length t) (length m)
  -- with a sheet under 49 bytes, what a composer says of an empty target, and never acceptance: 22 at 0 where it would accept with any target and map
  pub short : (s : Settings) → Written s q.settings → length u < 49
      → (verdict_of q t m u ≡ call_verdict (asked_with s q) 0 (length m)) × (verdict_of q t m u ≡ Accepted → ⊥)
      × ((target map : ℕ) → call_verdict (asked_with s q) target map ≡ Accepted → verdict_of q t m u ≡ Refused Fault.LentTooShort 0)
  -- a refused quote gives the figures 0 and changes no lent byte
  pub refused : (f : Fault) (p : ℕ) → verdict_of q t m u ≡ Refused f p → (k : Kind)
      → (number_in (quoted k q t m u) ≡ number f) × (place_in (quoted k q t m u) ≡ p)
      × (quoted_covered (quoted k q t m u) ≡ 0) × (quoted_length (quoted k q t m u) ≡ 0)
      × (quote_target k q t m u ≡ t) × (quote_map k q t m u ≡ m) × (quote_sheet k q t m u ≡ u)
  -- an accepted one, by either composer: its count is that of the pixels that a selected tile gives, the sheet begins with the two lines, whose length is
  -- answered, and is otherwise as it was lent, and target and map are as the composer leaves them, which is demand 2's plane
  pub accepted : verdict_of q t m u ≡ Accepted → (s : Settings) → Written s q.settings → (k : Kind)
      → (quoted_covered (quoted k q t m u) ≡ within (asked_window (asked_with s q)) (covered (selected (asked_with s q))))
      × (quote_sheet k q t m u
      ≡ line name_covered (decimal (quoted_covered (quoted k q t m u)))
      ++ (line name_area (decimal (quoted_covered (quoted k q t m u) * s.pitch_x * s.pitch_y))
      ++ drop (quoted_length (quoted k q t m u)) u))
      × (quoted_length (quoted k q t m u)
      ≡ length (line name_covered (decimal (quoted_covered (quoted k q t m u))))
      + length (line name_area (decimal (quoted_covered (quoted k q t m u) * s.pitch_x * s.pitch_y))))
      × (length (quote_sheet k q t m u) ≡ length u)
      × (quote_target k q t m u ≡ target_after k (asked_with s q) t m) × (quote_map k q t m u ≡ map_after k (asked_with s q) t m)
      × Plane
      (asked_window (asked_with s q)) (asked_bytes (asked_with s q)) q.background (selected (asked_with s q)) t m (quote_target k q t m u) (quote_map k q t m u)
  -- it has settings
  pub readable : verdict_of q t m u ≡ Accepted → (s : Settings) × Written s q.settings
  -- the area always fits 64 bits, and the two lines 49 bytes
  pub fits : verdict_of q t m u ≡ Accepted → (s : Settings) → Written s q.settings → (k : Kind)
      → (quoted_covered (quoted k q t m u) * s.pitch_x * s.pitch_y < 2 ^ 64) × (quoted_length (quoted k q t m u) ≤ 49)
  -- whichever composer is inside, the answer, the target, the map and the sheet are the same
  pub same_answer : quoted plain q t m u ≡ quoted quick q t m u
  pub same_target : quote_target plain q t m u ≡ quote_target quick q t m u
  pub same_map : quote_map plain q t m u ≡ quote_map quick q t m u
  pub same-sheet : quote_sheet plain q t m u ≡ quote_sheet quick q t m u
  -- a cut window adds up, whichever composer is inside each: the halves can be quoted, and counts and areas are the whole's. The rear half's left and top
  -- are of 32 bits, as the fore half's are, which are the whole's: so these claims hold of both halves, and `accepted` says what their sheets begin with
  pub cut : verdict_of q t m u ≡ Accepted → (s : Settings) → Written s q.settings
      → (l : Line) → Cuts l (asked_window (asked_with s q)) → (k k₁ k₂ : Kind) (t₁ m₁ u₁ t₂ m₂ u₂ : List ℕ)
      → RoomFor (asked_with s (fore_quote l q)) t₁ m₁ → 49 ≤ length u₁ → RoomFor (asked_with s (rear_quote l q)) t₂ m₂ → 49 ≤ length u₂
      → (verdict_of (fore_quote l q) t₁ m₁ u₁ ≡ Accepted) × (verdict_of (rear_quote l q) t₂ m₂ u₂ ≡ Accepted)
      × Int32 (rear_quote l q).request.left × Int32 (rear_quote l q).request.top
      × (quoted_covered (quoted k q t m u)
      ≡ quoted_covered (quoted k₁ (fore_quote l q) t₁ m₁ u₁) + quoted_covered (quoted k₂ (rear_quote l q) t₂ m₂ u₂))
      × (quoted_covered (quoted k q t m u) * s.pitch_x * s.pitch_y
      ≡ quoted_covered (quoted k₁ (fore_quote l q) t₁ m₁ u₁) * s.pitch_x * s.pitch_y
      + quoted_covered (quoted k₂ (rear_quote l q) t₂ m₂ u₂) * s.pitch_x * s.pitch_y)

-- of any file bytes, any question, any settings and any lent bytes
abbrev pub AllQuotes : Type 0
AllQuotes = (q : QuoteAsked) → Int32 q.request.left → Int32 q.request.top → (t m u : List ℕ) → QuoteClaims q t m u

-- two calls that keep the promise, one with each composer inside, agree
abbrev pub AgreeQuotes : Type 0
AgreeQuotes = (q : QuoteAsked) → Int32 q.request.left → Int32 q.request.top → (t m u t₁ m₁ u₁ t₂ m₂ u₂ : List ℕ) (r₁ r₂ : Result Figures Refusal)
    → QuoteAnswered plain q t m u t₁ m₁ u₁ r₁ → QuoteAnswered quick q t m u t₂ m₂ u₂ r₂
    → (r₁ ≡ r₂) × (t₁ ≡ t₂) × (m₁ ≡ m₂) × (u₁ ≡ u₂)

-- what the sheet's lines give is plain decimal: digits alone, at least one, which come to the number, and no more of them than it takes, so no leading
-- zero. The area is below 2 ^ 64 (`fits`), so below 10 ^ 20, and the count is not more than the area, since a pitch is at least 1
abbrev pub PlainDecimal : Type 0
PlainDecimal = (n : ℕ) → n < 10 ^ 20
    → (every digit (decimal n) ≡ true) × (digits_value (decimal n) ≡ n) × (1 ≤ length (decimal n))
    × ((k : ℕ) → 1 ≤ k → n < 10 ^ k → length (decimal n) ≤ k)
