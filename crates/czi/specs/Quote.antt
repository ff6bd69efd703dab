-- What a quote is asked by the numbers of a call for C, and what it answers.
use Rattle.std.specs.Prelude.{ℕ, ◌≡◌, List, not, eqb, ℤ}
use Rattle.plane.specs.Turns.{Kind}
use Rattle.quote.specs.Quote.{QuoteAsked, quoted, quote_target, quote_map, quote_sheet, quoted_covered, quoted_length}
use Rattle.question.specs.Call.{number_in, place_in}
use Rattle.quote.specs.Steps.{quote_asked}
use Rattle.quote.specs.declared.QuoteRequest.{QuoteRequest}
use Rattle.czi.specs.Lent.{release_of}

abbrev pub quote_request : ℕ → ℤ → ℤ → ℕ → ℕ → QuoteRequest
quote_request type left top width height = record { pixel_type = type; left = left; top = top; width = width; height = height }

-- what a call is asked, the lent target, map and sheet aside: any S counts unless any_scene is 0
abbrev pub quote_asked_by : List ℕ → ℕ → List ℤ → ℕ → ℕ → List ℕ → ℤ → ℤ → ℕ → ℕ → List ℕ → QuoteAsked
quote_asked_by file release starts any_scene type background left top width height settings =
    quote_asked file (release_of release) starts (not (eqb any_scene 0)) (quote_request type left top width height) background settings

-- a quote with the composer k inside, from the lent target t, map m and sheet u to t', m' and u'
pub record QuoteOut (k : Kind) (q : QuoteAsked) (t m u t' m' u' : List ℕ) (number place covered written : ℕ) : Type 0 where
  pub number_is : number ≡ number_in (quoted k q t m u)
  pub place_is : place ≡ place_in (quoted k q t m u)
  pub covered-is : covered ≡ quoted_covered (quoted k q t m u)
  pub written_is : written ≡ quoted_length (quoted k q t m u)
  pub target_is : t' ≡ quote_target k q t m u
  pub map_is : m' ≡ quote_map k q t m u
  pub sheet-is : u' ≡ quote_sheet k q t m u
