-- Every refusal of a file, of a question by number or of a composer has a number of at most 30, of a quote of at most 35, and of a repack of at most 36. Assumes nothing.
use Prim.Native.Nat.{ℕ, zero, suc, ◌≤◌}
use mathlib.Core.Path.{◌≡◌, refl}
use mathlib.Core.List.{List, [], ◌∷◌, ◌++◌}
use mathlib.Core.Bool.{Bool, true, false, cond, ◌&&◌, ◌||◌, and_assoc}
use native.Mathlib.Omega.{arith}
use lib.ListN.{length}
use lib.Dec.{eqb, leb, ltb}
use borrow.Author.Tests.{leb-true}
use Rattle.std.specs.Prelude.{Result, Ok, Err}
use Rattle.format.specs.Scan.{Scan, block_file}
use Rattle.format.specs.Checks.{number, Verdict, Accepted, Refused, Check, first, rows_below, and_then, number_of, verdict_in}
use Rattle.format.specs.Segments.{next_segment, segment_rows, walk_rows, segments_rows}
use Rattle.format.specs.File.{attachment_directory_position, file_rows}
use Rattle.format.specs.Entry.{file_position}
use Rattle.format.specs.Masks.{has_chunks, is_mask, next_chunk, chunk_rows, chunks_rows}
use Rattle.format.specs.Directory.{tile_count, entry_place, head_rows, tile_rows, sub_block_rows, attachment_rows, entry_rows, directory_rows}
use Rattle.format.specs.Attachments.{metadata_rows, attachment_entry_count, attachment_entry_rows, attachment_directory_rows, attachments_rows}
use Rattle.format.specs.Rules.{checks, verdict, tile_verdict, attachment_verdict}
use Rattle.format.specs.Records.{dimension_verdict}
use Rattle.format.specs.Answers.{VerdictAnswered, ValueAnswered, SpanAnswered, TileAnswered, DimensionAnswered, AttachmentAnswered}
use Rattle.format.specs.declared.Fault.TheVariants as Fault
use Rattle.format.specs.declared.Refusal.{Refusal}
use Rattle.format.specs.declared.Span.{Span}
use Rattle.format.specs.declared.Tile.{Tile}
use Rattle.format.specs.declared.Dimension.{Dimension}
use Rattle.format.specs.declared.Attachment.{Attachment}
use Rattle.tables.specs.Tables.{tiles_verdict, dimensions_verdict, TableAnswered}
use Rattle.listing.specs.Summary.{SummaryAnswered}
use Rattle.listing.specs.declared.Summary.{Summary}
use Rattle.plane.specs.Turns.{Kind}
use Rattle.question.specs.Question.{ask_rows, agree_rows}
use Rattle.question.specs.Call.{Asked, call_verdict, lending_verdict, Answered, number_in}
use Rattle.question.specs.declared.Counts.{Counts}
use Rattle.counting.specs.Chosen.{Sought, chosen_verdict, ChosenAnswered}
use Rattle.counting.specs.declared.ChosenCounts.{ChosenCounts}
use Rattle.settings.specs.Reading.{settings_bad, settings_in}
use Rattle.settings.specs.Answers.{comma_place, settings_rows, settings_verdict}
use Rattle.quote.specs.Quote.{QuoteAsked, asked_with, sheet_bad, quote_verdict, QuoteAnswered}
use Rattle.quote.specs.declared.Figures.{Figures}
use Rattle.repacked.specs.NewFile.{repacked}
use Rattle.repacked.specs.Refusals.{too_large, size_verdict, repack_verdict}
use Rattle.repack.specs.Answers.{RepackAnswered}
use Rattle.format.proofs.Below.{and_both}
use Rattle.format.proofs.Firsts.{first-append}

-- every row has such a number: of rows that are written out this computes
lows : List Check → Bool
lows [] = true
lows (c ∷ cs) = leb (number c.fault) 30 && lows cs

low : (cs : List Check) → lows cs ≡ true → number_of (first cs) ≤ 30
unfolding lows
low [] e = omega arith
low (c ∷ cs) e = let both = and_both (leb (number c.fault) 30) (lows cs) e in go c.given (leb-true _ _ both.0) (low cs both.1)
  where
    go : (t : Bool) → number c.fault ≤ 30 → number_of (first cs) ≤ 30 → number_of (cond t (Refused c.fault c.place) (first cs)) ≤ 30
    go true h k = h
    go false h k = k

lows-append : (a b : List Check) → lows (a ++ b) ≡ (lows a && lows b)
unfolding lows
lows-append [] b = refl
lows-append (c ∷ cs) b = simp (lows-append cs b, and_assoc)

lows-either : (t : Bool) (a b : List Check) → lows a ≡ true → lows b ≡ true → lows (cond t a b) ≡ true
lows-either true a b h k = h
lows-either false a b h k = k

lows-below : (n : ℕ) (f : ℕ → List Check) → ((i : ℕ) → lows (f i) ≡ true) → lows (rows_below n f) ≡ true
unfolding rows_below lows
lows-below zero f h = refl
lows-below (suc n) f h = simp (lows-append, lows-below n f h, h n)

-- ---- the rows of a file

module _ (bs : List ℕ) where
  walk-lows : (n p : ℕ) → lows (walk_rows n bs p) ≡ true
  unfolding walk_rows segment_rows lows
  walk-lows zero p = refl
  walk-lows (suc n) p = lows-either (ltb p (length bs)) _ [] (walk-lows n (next_segment bs p)) refl

  chunks-lows : (n end : ℕ) (seen : Bool) (c : ℕ) → lows (chunks_rows n bs end seen c) ≡ true
  unfolding chunks_rows chunk_rows lows
  chunks-lows zero end seen c = refl
  chunks-lows (suc n) end seen c = lows-either (ltb c end) _ [] (chunks-lows n end (seen || is_mask bs c) (next_chunk bs c)) refl

  attachments-lows : lows (attachments_rows bs) ≡ true
  unfolding attachments_rows attachment_directory_rows attachment_entry_rows lows
  attachments-lows =
      let t = attachment_directory_position bs in
      lows-either (eqb t 0) [] _ refl (lows-below (attachment_entry_count bs t) _ (λ k. refl))

module _ (sc : Scan) where
  entry-lows : (d e : ℕ) → lows (entry_rows sc d e) ≡ true
  unfolding entry_rows head_rows tile_rows sub_block_rows attachment_rows lows
  entry-lows d e =
      lows-either (has_chunks sc.file e (block_file sc e) (file_position sc.file e) sc.release) _ [] (chunks-lows (block_file sc e) _ _ false _) refl

  directory-lows : lows (directory_rows sc) ≡ true
  unfolding directory_rows lows
  directory-lows = lows-below (tile_count sc.file) _ (λ k. entry-lows _ (entry_place sc.file k))

  checks-lows : lows (checks sc) ≡ true
  unfolding checks segments_rows file_rows metadata_rows lows
  checks-lows = simp (lows-append, walk-lows sc.file 8192 0, directory-lows, lows-either, attachments-lows sc.file)

  -- with further rows of such numbers
  checks-then : (cs : List Check) → lows cs ≡ true → number_of (first (checks sc ++ cs)) ≤ 30
  checks-then cs e = low (checks sc ++ cs) (simp (lows-append, checks-lows, e))

-- ---- what is asked

module _ (sc : Scan) where
  pub verdict-low : number_of (verdict sc) ≤ 30
  unfolding verdict
  verdict-low = low _ (checks-lows sc)

  pub tile_low : (n : ℕ) → number_of (tile_verdict sc n) ≤ 30
  unfolding tile_verdict lows
  tile_low n = checks-then sc _ refl

  pub attachment-verdict-low : (n : ℕ) → number_of (attachment_verdict sc n) ≤ 30
  unfolding attachment_verdict lows
  attachment-verdict-low n = checks-then sc _ refl

  pub dimension-low : (n k : ℕ) → number_of (dimension_verdict sc n k) ≤ 30
  unfolding dimension_verdict lows
  dimension-low n k = checks-then sc _ refl

  pub tiles-low : (x y : ℕ) → number_of (tiles_verdict sc x y) ≤ 30
  unfolding tiles_verdict lows
  tiles-low x y = checks-then sc _ refl

  pub dimensions-low : (x y : ℕ) → number_of (dimensions_verdict sc x y) ≤ 30
  unfolding dimensions_verdict lows
  dimensions-low x y = checks-then sc _ refl

-- ---- the answer r about w

-- of any kind: its number is that of w
value-low : {A : Type 0} {none x : A} {w : Verdict} {r : Result A Refusal} (n : ℕ) → ValueAnswered none w x r → number_of w ≤ n
    → number_of (verdict_in r) ≤ n
value-low n a h = rw a.number_is h

module _ {w : Verdict} where
  pub answered-low : {r : Verdict} → VerdictAnswered w r → number_of w ≤ 30 → number_of r ≤ 30
  answered-low a h = rw a.number_is h

  pub span-low : {s : Span} {r : Result Span Refusal} → SpanAnswered w s r → number_of w ≤ 30 → number_of (verdict_in r) ≤ 30
  span-low a h = rw a.number_is h

  pub table-low : {rows : ℕ} {r : Result ℕ Refusal} → TableAnswered w rows r → number_of w ≤ 30 → number_of (verdict_in r) ≤ 30
  table-low a h = value-low 30 a h

  pub dimension-in-low : {d : Dimension} {r : Result Dimension Refusal} → DimensionAnswered w d r → number_of w ≤ 30 → number_of (verdict_in r) ≤ 30
  dimension-in-low a h = value-low 30 a h

  pub summary-low : {s : Summary} {r : Result Summary Refusal} → SummaryAnswered w s r → number_of w ≤ 30 → number_of (verdict_in r) ≤ 30
  summary-low a h = value-low 30 a h

  pub tile-in-low : {t : Tile} {r : Result Tile Refusal} → TileAnswered w t r → number_of w ≤ 30 → number_of (verdict_in r) ≤ 30
  tile-in-low a h = value-low 30 a h

  pub attachment-in-low : {t : Attachment} {r : Result Attachment Refusal} → AttachmentAnswered w t r → number_of w ≤ 30 → number_of (verdict_in r) ≤ 30
  attachment-in-low a h = value-low 30 a h

-- ---- what a composer is asked

call-low : (a : Asked) (target map : ℕ) → number_of (call_verdict a target map) ≤ 30
unfolding call_verdict ask_rows agree_rows lows
call-low a target map = checks-then a.scan _ (lows-below (tile_count a.scan.file) _ (λ k. refl))

-- a composer's answer r
pub answer-low : {k : Kind} {a : Asked} {t m t' m' : List ℕ} {r : Result Counts Refusal} → Answered k a t m t' m' r → number_in r ≤ 30
answer-low {a = a} {t = t} {m = m} h = rw h.number_is (call-low a (length t) (length m))

-- the answer r about the tiles that a question selects
pub chosen-low : {q : Sought} {before after : List ℕ} {r : Result ChosenCounts Refusal} → ChosenAnswered q before after r → number_of (verdict_in r) ≤ 30
unfolding chosen_verdict lows
chosen-low {q = q} h = rw h.number_is (checks-then q.scan _ refl)

-- ---- a quote

lending-low : (a : Asked) (target map : ℕ) (short : Bool) → number_of (lending_verdict a target map short) ≤ 30
unfolding lending_verdict ask_rows agree_rows lows
lending-low a target map short = checks-then a.scan _ (lows-below (tile_count a.scan.file) _ (λ k. refl))

either-low : (a b : Bool) (p : ℕ) (v : Verdict) → number_of v ≤ 30
    → number_of (and_then (cond a (Refused Fault.Comma p) (cond b (Refused Fault.Settings 0) Accepted)) v) ≤ 35
either-low true b p v h = omega arith
either-low false true p v h = omega arith
either-low false false p v h = omega arith

pub quote-verdict-low : (q : QuoteAsked) (target map sheet : ℕ) → number_of (quote_verdict q target map sheet) ≤ 35
unfolding quote_verdict settings_verdict settings_rows
quote-verdict-low q target map sheet =
    let a = asked_with (settings_in q.settings) q in
    either-low (ltb (comma_place q.settings) (length q.settings)) (settings_bad q.settings) (comma_place q.settings)
    (lending_verdict a target map (sheet_bad sheet)) (lending-low a target map (sheet_bad sheet))

pub quote-low : {k : Kind} {q : QuoteAsked} {t m u t' m' u' : List ℕ} {r : Result Figures Refusal} → QuoteAnswered k q t m u t' m' u' r → number_in r ≤ 35
quote-low {q = q} {t = t} {m = m} {u = u} h = rw h.number_is (quote-verdict-low q (length t) (length m) (length u))

-- ---- a repack

-- behind a verdict of such a number, 36 or 25
large-low : (v : Verdict) (a b : Bool) → number_of v ≤ 30
    → number_of (and_then v (cond a (Refused Fault.RepackTooLarge 0) (cond b (Refused Fault.RepackBuffer 0) Accepted))) ≤ 36
large-low (Ok _) true b h = omega arith
large-low (Ok _) false true h = omega arith
large-low (Ok _) false false h = omega arith
large-low (Err e) a b h = omega arith

pub size_low : (sc : Scan) → number_of (size_verdict sc) ≤ 36
unfolding size_verdict
size_low sc = rw first-append (large-low (first (checks sc)) (too_large sc.file) false (low _ (checks-lows sc)))

pub repack-low : (sc : Scan) (out : ℕ) → number_of (repack_verdict sc out) ≤ 36
unfolding repack_verdict
repack-low sc out =
    rw first-append (large-low (first (checks sc)) (too_large sc.file) (ltb out (length (repacked sc.file))) (low _ (checks-lows sc)))

pub repack-answer-low : {w : Verdict} {n : ℕ} {r : Result ℕ Refusal} → RepackAnswered w n r → number_of w ≤ 36 → number_in r ≤ 36
repack-answer-low a h = value-low 36 a h
