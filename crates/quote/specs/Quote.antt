-- A quote (paper 02, Req 09): a composer's call with settings in place of a masks choice, and a sheet of two lines.
-- It rests on what a composer promises. Of the reader it cites one definition below that, `lending_verdict` of question, which has the sheet's 22 in
-- its place among a composer's refusals; the claims `settled` and `short` say what this comes to by `call_verdict` alone, which a composer's promise is about.
use Rattle.std.specs.Prelude.{ℕ, ◌*◌, ◌≡◌, List, [], ◌∷◌, ◌++◌, Bool, length, drop, ltb, ℤ, Result, Ok, Err}
use Rattle.format.specs.Scan.{Scan}
use Rattle.format.specs.Checks.{Verdict, and_then, if_accepted, number_of, place_of, answer_if}
use Rattle.format.specs.declared.Refusal.{Refusal}
use Rattle.plane.specs.Turns.{Kind}
use Rattle.text.specs.Text.{decimal, line}
use Rattle.question.specs.Call.{Asked, lending_verdict, answer, target_after, map_after, covered_in, number_in, place_in}
use Rattle.question.specs.declared.Masks.{Masks}
use Rattle.question.specs.declared.WindowRequest.{WindowRequest}
use Rattle.settings.specs.Settings.{masks_meant}
use Rattle.settings.specs.Reading.{settings_in}
use Rattle.settings.specs.Answers.{settings_verdict}
use Rattle.settings.specs.declared.Settings.{Settings}
use Rattle.quote.specs.declared.QuoteRequest.{QuoteRequest}
use Rattle.quote.specs.declared.Figures.{Figures}

-- what a quote is given, the lent target, map and sheet aside
pub record QuoteAsked : Type 0 where
  pub scan : Scan
  pub starts : List ℤ
  pub any_scene : Bool
  pub request : QuoteRequest
  pub background : List ℕ
  pub settings : List ℕ

-- ---- what the composer is asked: the same, with the masks choice that the settings come to

abbrev pub request_with : Masks → QuoteRequest → WindowRequest
request_with m f = record { pixel_type = f.pixel_type; left = f.left; top = f.top; width = f.width; height = f.height; masks = m }

abbrev pub asked_with : Settings → QuoteAsked → Asked
asked_with s q =
    record {
      scan = q.scan;
      starts = q.starts;
      any_scene = q.any_scene;
      request = request_with (masks_meant s.edition s.masks) q.request;
      background = q.background;
    }

-- ---- the refusals: 34 and 35 of the settings, then the composer's, a sheet under 49 bytes among its 22

-- a sheet of this length is too short. 49 is what the longest text takes: `covered=` 8 bytes, at most 10 digits, a newline; `area_nm2=` 9 bytes, at most
-- 20 digits, a newline
unfoldable pub sheet_bad : ℕ → Bool
sheet_bad sheet = ltb sheet 49

-- target, map and sheet are the lengths of what is lent
unfoldable pub quote_verdict : QuoteAsked → ℕ → ℕ → ℕ → Verdict
quote_verdict q target map sheet =
    and_then (settings_verdict q.settings) (lending_verdict (asked_with (settings_in q.settings) q) target map (sheet_bad sheet))

-- ---- the sheet

-- covered=
unfoldable pub name_covered : List ℕ
name_covered = 99 ∷ 111 ∷ 118 ∷ 101 ∷ 114 ∷ 101 ∷ 100 ∷ 61 ∷ []

-- area_nm2=
unfoldable pub name_area : List ℕ
name_area = 97 ∷ 114 ∷ 101 ∷ 97 ∷ 95 ∷ 110 ∷ 109 ∷ 50 ∷ 61 ∷ []

-- in square nanometres: the count times both pitches
unfoldable pub area_of : Settings → ℕ → ℕ
area_of s covered = covered * s.pitch_x * s.pitch_y

unfoldable pub sheet_text : Settings → ℕ → List ℕ
sheet_text s covered = line name_covered (decimal covered) ++ line name_area (decimal (area_of s covered))

-- a text at the start of the lent sheet u, whose bytes past it stay
unfoldable pub overlaid : List ℕ → List ℕ → List ℕ
overlaid text u = text ++ drop (length text) u

-- ---- the answer: the covered count and the length of the sheet's text

abbrev pub figures : ℕ → ℕ → Figures
figures covered n = record { covered = covered; length = n }

-- of an answer: a refusal gives 0 for both
abbrev pub quoted_covered : Result Figures Refusal → ℕ
quoted_covered (Ok f) = f.covered
quoted_covered (Err e) = 0

abbrev pub quoted_length : Result Figures Refusal → ℕ
quoted_length (Ok f) = f.length
quoted_length (Err e) = 0

-- ---- a whole call, by the composer k, over the lent target t, map m and sheet u

-- the count of the call that the composer is asked, which its answer has
unfoldable pub count_of : Kind → QuoteAsked → List ℕ → List ℕ → ℕ
count_of k q t m = covered_in (answer k (asked_with (settings_in q.settings) q) t m)

unfoldable pub sheet_for : Kind → QuoteAsked → List ℕ → List ℕ → List ℕ
sheet_for k q t m = sheet_text (settings_in q.settings) (count_of k q t m)

abbrev pub verdict_of : QuoteAsked → List ℕ → List ℕ → List ℕ → Verdict
verdict_of q t m u = quote_verdict q (length t) (length m) (length u)

unfoldable pub quoted : Kind → QuoteAsked → List ℕ → List ℕ → List ℕ → Result Figures Refusal
quoted k q t m u = answer_if (verdict_of q t m u) (figures (count_of k q t m) (length (sheet_for k q t m)))

-- what target, map and sheet hold in the end: as they were lent where the call is refused
unfoldable pub quote_target : Kind → QuoteAsked → List ℕ → List ℕ → List ℕ → List ℕ
quote_target k q t m u = if_accepted (verdict_of q t m u) (target_after k (asked_with (settings_in q.settings) q) t m) t

unfoldable pub quote_map : Kind → QuoteAsked → List ℕ → List ℕ → List ℕ → List ℕ
quote_map k q t m u = if_accepted (verdict_of q t m u) (map_after k (asked_with (settings_in q.settings) q) t m) m

unfoldable pub quote_sheet : Kind → QuoteAsked → List ℕ → List ℕ → List ℕ → List ℕ
quote_sheet k q t m u = if_accepted (verdict_of q t m u) (overlaid (sheet_for k q t m) u) u

-- the promise: the answer r, its number, place and figures, and the end state of what was lent
pub record QuoteAnswered (k : Kind) (q : QuoteAsked) (t m u t' m' u' : List ℕ) (r : Result Figures Refusal) : Type 0 where
  pub answer_is : r ≡ quoted k q t m u
  pub number_is : number_in r ≡ number_of (verdict_of q t m u)
  pub place_is : place_in r ≡ place_of (verdict_of q t m u)
  pub covered-is : quoted_covered r ≡ if_accepted (verdict_of q t m u) (count_of k q t m) 0
  pub length_is : quoted_length r ≡ if_accepted (verdict_of q t m u) (length (sheet_for k q t m)) 0
  pub target_is : t' ≡ quote_target k q t m u
  pub map_is : m' ≡ quote_map k q t m u
  pub sheet-is : u' ≡ quote_sheet k q t m u
