-- The text of a summary, and the text of the whole listing. Assumes nothing.
use Rattle.std.proofs.Common.{◌≡◌, ◌∙◌, ℕ, suc, ◌+◌, ◌-◌, ◌%◌, ◌^◌, ◌≤◌, ◌<◌, List, length, arith, ltb, Err, Option}
use borrow.Author.Tests.{lt-ltb, le-ltb, ltb-true, ltb-false}
use Rattle.format.specs.Bytes.{any_below, signed32, biased}
use Rattle.format.specs.Directory.{tile_count}
use Rattle.format.specs.Segments.{walked}
use Rattle.format.specs.Attachments.{attachment_count}
use Rattle.format.proofs.Below.{by_bool}
use Rattle.format.specs.Scan.{scan_of}
use Rattle.format.specs.Rules.{verdict, AcceptedFile}
use Rattle.format.specs.declared.Release.{Release}
use Rattle.format.specs.Checks.{Verdict, Accepted, number}
use Rattle.format.specs.declared.Refusal.{Refusal}
use Rattle.judge.proofs.AcceptedFile.{accepted-under}
use Rattle.text.specs.Text.{signed_decimal, signed_text}
use Rattle.listing.specs.Summary.{plain, left, top, right, bottom, bounds_of, summary_of}
use Rattle.listing.specs.Listing.{box_text, figures_text, refusal_text, listing_of}
use Rattle.listing.specs.Figures.{text_by, corners_below, bounds_by}
use Rattle.listing.specs.declared.Corners.{Corners}
use Rattle.listing.specs.declared.TileBox.{TileBox}
use Rattle.listing.specs.declared.Summary.{Summary}
use Rattle.listing.proofs.Boxes.{corners-held}

-- ---- a coordinate in decimal, from its signed number

module _ (b : ℕ) (h : b < 2 ^ 32) where
  negative : b < 2 ^ 31 → signed_text (signed32 (biased b)) ≡ signed_decimal b
  unfolding signed32 biased signed_decimal
  negative l =
      let y : (b + 2 ^ 31) % 2 ^ 32 ≡ b + 2 ^ 31 = omega arith in
      let e : suc (2 ^ 32 - suc (b + 2 ^ 31)) ≡ 2 ^ 31 - b = omega arith in
      rw (lt-ltb b (2 ^ 31) l, y, le-ltb (b + 2 ^ 31) (2 ^ 31) (omega arith), lt-ltb (b + 2 ^ 31) (2 ^ 32) (omega arith), e)

  positive : 2 ^ 31 ≤ b → signed_text (signed32 (biased b)) ≡ signed_decimal b
  unfolding signed32 biased signed_decimal
  positive l =
      let y : (b + 2 ^ 31) % 2 ^ 32 ≡ b - 2 ^ 31 = omega arith in
      rw (le-ltb b (2 ^ 31) l, y, lt-ltb (b - 2 ^ 31) (2 ^ 31) (omega arith))

  pub text-unshifted : signed_text (signed32 (biased b)) ≡ signed_decimal b
  text-unshifted = by_bool (ltb b (2 ^ 31)) (λ e. negative (ltb-true b (2 ^ 31) e)) (λ e. positive (ltb-false b (2 ^ 31) e))

-- ---- the text of a summary

bounds-by : (bs : List ℕ) → bounds_by (corners_below bs (tile_count bs)) ≡ bounds_of (any_below (tile_count bs) (plain bs)) (left bs) (top bs) (right bs) (bottom bs)
unfolding corners_below bounds_of left top right bottom
bounds-by bs = by_bool (any_below (tile_count bs) (plain bs)) (λ e. rw e) (λ e. rw e)

-- figures of the file bs, one by one
abbrev figures : ℕ → ℕ → ℕ → ℕ → Option TileBox → Summary
figures n s t a b = record { bytes = n; segments = s; tiles = t; attachments = a; bounds = b }

pub figures-are : (bs : List ℕ) (s t a : ℕ) (c : Option Corners) (b : Option TileBox) → s ≡ length (walked bs) → t ≡ tile_count bs → a ≡ attachment_count bs
    → c ≡ corners_below bs t → b ≡ bounds_by c → figures (length bs) s t a b ≡ summary_of bs
unfolding summary_of
figures-are bs s t a c b e f g h i = rw (i, h, e, f, g, bounds-by bs)

text-by : (bs : List ℕ) → AcceptedFile bs → text_by (summary_of bs) ≡ figures_text bs
unfolding text_by summary_of bounds_of figures_text box_text
text-by bs a =
    by_bool (any_below (tile_count bs) (plain bs))
    (λ e.
    let h = corners-held bs a e in
    rw (
      e,
      text-unshifted (left bs) h.left_fits,
      text-unshifted (top bs) h.top_fits,
      text-unshifted (right bs) h.right_fits,
      text-unshifted (bottom bs) h.bottom_fits,
    ))
    (λ e. rw e)

-- ---- the listing, under the release rel

module _ (bs : List ℕ) (rel : Release) where
  pub listing-long : 65536 < length bs → refusal_text 30 0 ≡ listing_of bs rel
  unfolding listing_of
  listing-long h = rw (lt-ltb 65536 (length bs) h)

  pub listing-refused : (t : List ℕ) (v : Verdict) (e : Refusal) → v ≡ verdict (scan_of bs rel) → v ≡ Err e → length bs ≤ 65536
      → t ≡ refusal_text (number e.fault) e.place → t ≡ listing_of bs rel
  unfolding listing_of
  listing-refused t v r j e h s = s ∙ rw (le-ltb 65536 (length bs) h, ← j, e)

  pub listing-accepted : length bs ≤ 65536 → verdict (scan_of bs rel) ≡ Accepted → text_by (summary_of bs) ≡ listing_of bs rel
  unfolding listing_of
  listing-accepted h a = rw (le-ltb 65536 (length bs) h, a) (text-by bs (accepted-under bs rel a))
