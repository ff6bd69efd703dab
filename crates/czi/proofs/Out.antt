-- From what was answered to the library's own functions to what is given to C. Assumes nothing.
use Prim.Native.Nat.{ℕ, ◌^◌, ◌<◌}
use mathlib.Core.Path.{◌≡◌, refl, ap, ◌∙◌}
use mathlib.Core.List.{List}
use mathlib.Core.Bool.{Bool}
use lib.ListN.{length}
use lib.IntN.{ℤ}
use lib.Signed.{mag}
use mir.Syntax.{w32}
use mir.Val.{of_z, to_z}
use Rattle.std.specs.Prelude.{Result, Ok, Err, is_some, unwrap_or}
use Rattle.std.specs.Int.{from_bool}
use Rattle.std.specs.Result.{result_unwrap_or}
use Rattle.format.specs.Scan.{scan_of}
use Rattle.format.specs.Directory.{tile_count}
use Rattle.format.specs.Rules.{verdict}
use Rattle.format.specs.Checks.{Verdict, number_of, place_of, verdict_in, value_in}
use Rattle.format.specs.Answers.{VerdictAnswered, ValueAnswered, SpanAnswered, TileAnswered, DimensionAnswered, AttachmentAnswered, no_span, no_dimension}
use Rattle.format.specs.declared.Refusal.{Refusal}
use Rattle.format.specs.declared.Release.{Release}
use Rattle.format.specs.declared.Span.{Span}
use Rattle.format.specs.declared.Tile.{Tile}
use Rattle.format.specs.declared.Dimension.{Dimension}
use Rattle.format.specs.Attachments.{attachment_guid, attachment_type, attachment_name}
use Rattle.format.specs.declared.Attachment.{Attachment}
use Rattle.tables.specs.Numbers.{tile_numbers, tile_starts}
use Rattle.tables.specs.Tables.{tiles_verdict, TileArrays}
use Rattle.repacked.specs.NewFile.{repacked}
use Rattle.repacked.specs.Refusals.{size_verdict, repack_verdict}
use Rattle.repack.specs.Answers.{RepackAnswered, out_after}
use Rattle.quote.specs.Quote.{QuoteAsked, figures, quoted_covered, quoted_length, QuoteAnswered}
use Rattle.quote.specs.Steps.{quote_asked}
use Rattle.quote.specs.declared.QuoteRequest.{QuoteRequest}
use Rattle.quote.specs.declared.Figures.{Figures}
use Rattle.czi.specs.Quote.{quote_request, QuoteOut}
use Rattle.czi.specs.Repack.{RepackSizeOut, RepackOut}
use Rattle.listing.specs.Summary.{no_summary, SummaryAnswered}
use Rattle.listing.specs.declared.Summary.{Summary}
use Rattle.listing.specs.declared.TileBox.{TileBox}
use Rattle.plane.specs.Turns.{Kind}
use Rattle.question.specs.Call.{Answered, covered_in, stored_in}
use Rattle.question.specs.declared.WindowRequest.{WindowRequest}
use Rattle.question.specs.declared.Counts.{Counts}
use Rattle.compose.specs.Steps.{asked}
use Rattle.entries.proofs.ReadBack.{read_back}
use Rattle.czi.specs.Lent.{release_of, lent_scan}
use Rattle.czi.specs.Plane.{request_of, PlaneOut}
use Rattle.czi.specs.Numbers.{no_box}
use Rattle.czi.specs.Out.{VerdictOut, SpanOut, TileOut, TableOut, DimensionOut, AttachmentOut, SummaryOut}

-- an answer's value, or what stands for it where it is refused
pub unwrapped : {A : Type 0} (none : A) (a : Result A Refusal) → result_unwrap_or a none ≡ value_in none a
unwrapped none (Ok x) = refl
unwrapped none (Err e) = refl

-- the verdict of a verdict
own-verdict : (v : Verdict) → verdict_in v ≡ v
own-verdict (Ok _) = refl
own-verdict (Err e) = refl

-- ---- what was answered about w, as the refusal's number and place and as numbers

module _ {w : Verdict} {number place : ℕ} where
  pub span-out : {s : Span} {a : Result Span Refusal} {start length : ℕ}
      → SpanAnswered w s a → SpanOut (verdict_in a) (value_in no_span a) number place start length → SpanOut w s number place start length
  span-out a h = record { number_is = cc; place_is = cc; start_is = cc; length_is = cc }

  pub table-out : {rows count : ℕ} {a : Result ℕ Refusal}
      → ValueAnswered 0 w rows a → VerdictOut (verdict_in a) number place → count ≡ value_in 0 a → TableOut w rows number place count
  table-out a h e = record { number_is = cc; place_is = cc; count-is = cc }

  pub dimension-out : {d x : Dimension} {a : Result Dimension Refusal} {start : ℤ}
      → DimensionAnswered w d a → number ≡ number_of (verdict_in a) → place ≡ place_of (verdict_in a) → x ≡ result_unwrap_or a no_dimension → start ≡ x.start
      → DimensionOut w d number place x.letter start x.size x.coordinate_bits x.stored
  dimension-out {a = a} h n p e z =
      let u = unwrapped no_dimension a in
      record { number_is = cc; place_is = cc; letter-is = cc; start_is = cc; size_is = cc; bits_are = cc; stored_is = cc }

  pub summary-out : {s x : Summary} {a : Result Summary Refusal} {b : TileBox} {some : ℕ} {left top right bottom : ℤ}
      → SummaryAnswered w s a → number ≡ number_of (verdict_in a) → place ≡ place_of (verdict_in a) → x ≡ result_unwrap_or a no_summary
      → some ≡ from_bool (is_some x.bounds) → b ≡ unwrap_or x.bounds no_box → left ≡ b.left → top ≡ b.top → right ≡ b.right → bottom ≡ b.bottom
      → SummaryOut w s number place x.bytes x.segments x.tiles x.attachments some left top right bottom
  summary-out {a = a} h n p e g f hl ht hr hb =
      let u = unwrapped no_summary a in
      record {
        number_is = cc;
        place_is = cc;
        bytes_are = cc;
        segments-are = cc;
        tiles_are = cc;
        attachments_are = cc;
        box-is = cc;
        left_is = cc;
        top-is = cc;
        right_is = cc;
        bottom-is = cc;
      }

-- the verdict v on a file, judged by the release rel of the number that was given
pub judged-out : (bs : List ℕ) (rel : Release) (release : ℕ) {v : Verdict} {number place : ℕ}
    → number ≡ number_of (verdict_in v) → place ≡ place_of (verdict_in v) → rel ≡ release_of release → VerdictAnswered (verdict (scan_of bs rel)) v
    → VerdictOut (verdict (lent_scan bs release)) number place
judged-out bs rel release {v = v} n p e a = let u = own-verdict v in rw (← e) (record { number_is = cc; place_is = cc })

-- all tile records of it, in the same way
module _ (bs : List ℕ) (rel : Release) (release : ℕ) (e : rel ≡ release_of release) where
  pub tiles-out : (x y : ℕ) {number place count : ℕ} {a : Result ℕ Refusal}
      → ValueAnswered 0 (tiles_verdict (scan_of bs rel) x y) (tile_count bs) a → VerdictOut (verdict_in a) number place → count ≡ value_in 0 a
      → TableOut (tiles_verdict (lent_scan bs release) x y) (tile_count bs) number place count
  tiles-out x y a h f = rw (← e) (table-out a h f)

  pub tile-arrays-out : {numbers₀ : List ℕ} {starts₀ : List ℤ} {numbers : List ℕ} {starts : List ℤ}
      → TileArrays (scan_of bs rel) numbers₀ starts₀ numbers starts → TileArrays (lent_scan bs release) numbers₀ starts₀ numbers starts
  tile-arrays-out k = rw (← e) k

-- ---- a tile record: by cases of the verdict w about which the answer a is

module _ {t : Tile} {a : Result Tile Refusal} {numbers : List ℕ} {starts : List ℤ} where
  pub tile-refused-out : {w : Verdict} {e : Refusal} {number place : ℕ}
      → TileAnswered w t a → a ≡ Err e → number ≡ number_of (Err e) → place ≡ e.place
      → TileOut w t numbers starts number place numbers starts
  tile-refused-out {w = Ok _} h e n p = absurd (cc)
  tile-refused-out {w = Err r} h e n p = record { number_is = cc; place_is = cc; numbers-are = refl; starts-are = refl }

  pub tile-found-out : {w : Verdict} {u : Tile} {numbers₀ : List ℕ} {starts₀ : List ℤ}
      → TileAnswered w t a → a ≡ Ok u → numbers ≡ tile_numbers u → starts ≡ tile_starts u
      → TileOut w t numbers₀ starts₀ 0 0 numbers starts
  tile-found-out {w = Ok _} h e n s = record { number_is = refl; place_is = refl; numbers-are = cc; starts-are = cc }
  tile-found-out {w = Err r} h e n s = absurd (cc)

-- ---- an attachment record, in the same way; e is where its entry stands

module _ {bs : List ℕ} {t : Attachment} {a : Result Attachment Refusal} {guid type name : List ℕ} where
  pub attachment-refused-out : {w : Verdict} {e : Refusal} {number place : ℕ}
      → AttachmentAnswered w t a → a ≡ Err e → number ≡ number_of (Err e) → place ≡ e.place
      → AttachmentOut w bs t guid type name guid type name number place 0 0
  attachment-refused-out {w = Ok _} h e n p = absurd (cc)
  attachment-refused-out {w = Err r} h e n p =
      record { number_is = cc; place_is = cc; guid_is = refl; type_is = refl; name_is = refl; start_is = refl; length_is = refl }

  pub attachment-found-out : {w : Verdict} {u : Attachment} {guid₀ type₀ name₀ : List ℕ}
      → AttachmentAnswered w t a → a ≡ Ok u
      → guid ≡ attachment_guid bs u.place → type ≡ attachment_type bs u.place → name ≡ attachment_name bs u.place
      → AttachmentOut w bs t guid₀ type₀ name₀ guid type name 0 0 u.«data».start u.«data».length
  attachment-found-out {w = Ok _} h e g y n =
      record { number_is = refl; place_is = refl; guid_is = cc; type_is = cc; name_is = cc; start_is = cc; length_is = cc }
  attachment-found-out {w = Err r} h e g y n = absurd (cc)

-- ---- a plane

-- the request f that was made of these numbers: left and top are handed on as their bits
pub request-back : {f : WindowRequest} {type : ℕ} {left top : ℤ} {width height : ℕ} (masks : ℕ)
    → f ≡ request_of type (to_z w32 (of_z w32 left)) (to_z w32 (of_z w32 top)) width height masks
    → mag left < 2 ^ 31 → mag top < 2 ^ 31 → f ≡ request_of type left top width height masks
request-back {left = left} {top = top} masks e l t = e ∙ rw (read_back left l, read_back top t)

-- what a composer answered about the request f, said of g
pub plane-out : {k : Kind} {bs : List ℕ} {rel : Release} {starts : List ℤ} {any : Bool} {f g : WindowRequest}
    {background t m t' m' : List ℕ} {r : Result Counts Refusal} {number place covered stored : ℕ}
    → Answered k (asked bs rel starts any f background) t m t' m' r → f ≡ g
    → VerdictOut (verdict_in r) number place → (covered ≡ covered_in r) × (stored ≡ stored_in r)
    → PlaneOut k (asked bs rel starts any g background) t m t' m' number place covered stored
plane-out h e v c =
    rw (← e)
    (record { number_is = cc; place_is = cc; covered-is = cc c.0; stored_is = cc c.1; target_is = h.target_is; map_is = h.map_is })

-- what a quote answered about the request f under the release rel, said of g and by
pub quote-said : {k : Kind} {bs : List ℕ} {rel by : Release} {starts : List ℤ} {any : Bool} {f : QuoteRequest} {type : ℕ} {left top : ℤ} {width height : ℕ}
    {background settings t m u t' m' u' : List ℕ} {r : Result Figures Refusal}
    → QuoteAnswered k (quote_asked bs rel starts any f background settings) t m u t' m' u' r → rel ≡ by
    → f ≡ quote_request type (to_z w32 (of_z w32 left)) (to_z w32 (of_z w32 top)) width height → mag left < 2 ^ 31 → mag top < 2 ^ 31
    → QuoteAnswered k (quote_asked bs by starts any (quote_request type left top width height) background settings) t m u t' m' u' r
quote-said {left = left} {top = top} h e f l t = rw (← e, ← read_back left l, ← read_back top t, ← f) h

-- its figures
figures-in : (r : Result Figures Refusal)
    → ((result_unwrap_or r (figures 0 0)).covered ≡ quoted_covered r) × ((result_unwrap_or r (figures 0 0)).length ≡ quoted_length r)
figures-in (Ok f) = (refl, refl)
figures-in (Err e) = (refl, refl)

-- what is given to C of it
pub quote-out : {k : Kind} {q : QuoteAsked} {t m u t' m' u' : List ℕ} {r : Result Figures Refusal} {x : Figures} {number place : ℕ}
    → QuoteAnswered k q t m u t' m' u' r → number ≡ number_of (verdict_in r) → place ≡ place_of (verdict_in r) → x ≡ result_unwrap_or r (figures 0 0)
    → QuoteOut k q t m u t' m' u' number place x.covered x.length
quote-out {r = r} h en ep e =
    let f = figures-in r in
    record {
      number_is = en ∙ ap (λ a. number_of (verdict_in a)) h.answer_is;
      place_is = ep ∙ ap (λ a. place_of (verdict_in a)) h.answer_is;
      covered-is = ap (λ (y : Figures). y.covered) e ∙ f.0 ∙ ap quoted_covered h.answer_is;
      written_is = ap (λ (y : Figures). y.length) e ∙ f.1 ∙ ap quoted_length h.answer_is;
      target_is = h.target_is;
      map_is = h.map_is;
      sheet-is = h.sheet-is;
    }

-- ---- a repack, under the release that the number says

module _ (bs : List ℕ) (rel : Release) (release : ℕ) (e : rel ≡ release_of release) where
  pub repack-size-out : {r : Result ℕ Refusal} {number place size : ℕ}
      → RepackAnswered (size_verdict (scan_of bs rel)) (length (repacked bs)) r
      → VerdictOut (verdict_in r) number place → size ≡ value_in 0 r → RepackSizeOut (lent_scan bs release) number place size
  repack-size-out h v es = rw (← e) (record { number_is = v.number_is ∙ h.number_is; place_is = v.place_is ∙ h.place_is; size_is = es ∙ h.value_is })

  pub repack-out : {out out' : List ℕ} {r : Result ℕ Refusal} {number place written : ℕ}
      → RepackAnswered (repack_verdict (scan_of bs rel) (length out)) (length (repacked bs)) r → out' ≡ out_after (scan_of bs rel) out
      → VerdictOut (verdict_in r) number place → written ≡ value_in 0 r → RepackOut (lent_scan bs release) out out' number place written
  repack-out h o v ew =
      rw (← e) (record { number_is = v.number_is ∙ h.number_is; place_is = v.place_is ∙ h.place_is; written_is = ew ∙ h.value_is; out_is = o })
