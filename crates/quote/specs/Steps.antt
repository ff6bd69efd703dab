-- The steps of a quote: what it is asked, a sheet by settings that were read, and the call behind them.
use Rattle.std.specs.Prelude.{ℕ, ◌≤◌, ◌≡◌, List, [], Bool, true, length, ℤ, Result, Err}
use Rattle.format.specs.Scan.{scan_of}
use Rattle.format.specs.Checks.{Verdict, if_accepted, answer_if}
use Rattle.format.specs.declared.Release.{Release}
use Rattle.format.specs.declared.Refusal.{Refusal}
use Rattle.plane.specs.Turns.{Kind, quick}
use Rattle.question.specs.Call.{Asked, lending_verdict, answer, target_after, map_after, covered_in}
use Rattle.question.specs.declared.Counts.{Counts}
use Rattle.settings.specs.declared.Settings.{Settings}
use Rattle.quote.specs.Quote.{QuoteAsked, sheet_bad, sheet_text, overlaid, figures}
use Rattle.quote.specs.declared.QuoteRequest.{QuoteRequest}
use Rattle.quote.specs.declared.Figures.{Figures}

abbrev pub quote_asked : List ℕ → Release → List ℤ → Bool → QuoteRequest → List ℕ → List ℕ → QuoteAsked
quote_asked bs rel starts any_scene f background settings =
    record { scan = scan_of bs rel; starts = starts; any_scene = any_scene; request = f; background = background; settings = settings }

-- pitches that a sheet has room for
pub record Pitched (s : Settings) : Type 0 where
  pub x_most : s.pitch_x ≤ 65535
  pub y_most : s.pitch_y ≤ 65535

-- the text t is the sheet's, which has at most 49 bytes
pub record SheetSays (s : Settings) (covered : ℕ) (t : List ℕ) : Type 0 where
  pub text : t ≡ sheet_text s covered
  pub most : length t ≤ 49

-- the lent sheet u with that text at its start, and the text's length
pub record SheetWritten (s : Settings) (covered : ℕ) (u u' : List ℕ) (r : ℕ) : Type 0 where
  pub sheet-is : u' ≡ overlaid (sheet_text s covered) u
  pub length_is : r ≡ length (sheet_text s covered)

-- the verdict behind the settings: on what the composer is asked, with this target, map and sheet lent
abbrev pub lending_of : Asked → List ℕ → List ℕ → List ℕ → Verdict
lending_of a t m u = lending_verdict a (length t) (length m) (sheet_bad (length u))

-- a quote behind its settings s: what the composer k, asked a, and the sheet come to
pub record QuoteBy (k : Kind) (a : Asked) (s : Settings) (t m u t' m' u' : List ℕ) (r : Result Figures Refusal) : Type 0 where
  pub answer_is : r ≡ answer_if (lending_of a t m u) (figures (covered_in (answer k a t m)) (length (sheet_text s (covered_in (answer k a t m)))))
  pub target_is : t' ≡ if_accepted (lending_of a t m u) (target_after k a t m) t
  pub map_is : m' ≡ if_accepted (lending_of a t m u) (map_after k a t m) m
  pub sheet-is : u' ≡ if_accepted (lending_of a t m u) (overlaid (sheet_text s (covered_in (answer k a t m))) u) u

-- what the composer answers of an empty target; the whole target and the map stay
pub record ShortAsked (a : Asked) (t m t' m' : List ℕ) (r : Result Counts Refusal) : Type 0 where
  pub answer_is : r ≡ answer quick a [] m
  pub target_is : t' ≡ t
  pub map_is : m' ≡ m

-- a quote whose sheet is too short: its refusal; target and map stay
pub record ShortRefused (a : Asked) (t m t' m' : List ℕ) (r : Refusal) : Type 0 where
  pub refusal_is : lending_verdict a (length t) (length m) true ≡ Err r
  pub target_is : t' ≡ t
  pub map_is : m' ≡ m
