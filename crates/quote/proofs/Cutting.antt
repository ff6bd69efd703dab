-- The two halves of a cut window as quotes of their own: their composers are asked the halves of what the whole's is asked. Assumes nothing.
use mathlib.Core.Path.{◌≡◌, refl}
use Rattle.plane.specs.Cuts.{Line, column, row}
use Rattle.question.specs.Demand3.{rear_request, fore_of, rear_of}
use Rattle.settings.specs.declared.Settings.{Settings}
use Rattle.quote.specs.Quote.{QuoteAsked, asked_with}
use Rattle.quote.specs.Claims.{fore_quote, rear_quote}

pub fore-asked : (s : Settings) (l : Line) (q : QuoteAsked) → asked_with s (fore_quote l q) ≡ fore_of l (asked_with s q)
fore-asked s (column c) q = refl
fore-asked s (row c) q = refl

pub rear-asked : (s : Settings) (l : Line) (q : QuoteAsked) → asked_with s (rear_quote l q) ≡ rear_of l (asked_with s q)
rear-asked s (column c) q = refl
rear-asked s (row c) q = refl

-- and the rear half stands where that half stands
pub rear-left : (s : Settings) (l : Line) (q : QuoteAsked) → (rear_request l (asked_with s q).request).left ≡ (rear_quote l q).request.left
rear-left s (column c) q = refl
rear-left s (row c) q = refl

pub rear-top : (s : Settings) (l : Line) (q : QuoteAsked) → (rear_request l (asked_with s q).request).top ≡ (rear_quote l q).request.top
rear-top s (column c) q = refl
rear-top s (row c) q = refl
