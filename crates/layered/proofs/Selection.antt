-- A tile is selected exactly where it is no pyramid tile and has the start that is asked for each letter that selects. Assumes nothing.
use Prim.Native.Nat.{ℕ, ◌+◌, ◌^◌, ◌≤◌, ◌<◌}
use mathlib.Core.Path.{◌≡◌, refl}
use mathlib.Core.Logic.{◌↔◌}
use mathlib.Core.List.{List}
use mathlib.Core.Bool.{Bool, true, false}
use native.Mathlib.Omega.{arith}
use lib.IntN.{ℤ}
use borrow.Author.Tests.{lt-ltb, le-leb, eq-eqb, ne_eqb, eqb-true, eqb-false, not-false}
use Rattle.format.specs.Bytes.{any_of, any_below, biased}
use Rattle.format.specs.Choice.{Choice, asked_start}
use Rattle.format.specs.Entry.{dimension_count, has_letter, letter_index, letter_place, dimensions_bad, is_pyramid}
use Rattle.format.specs.Records.{tile_entry, extent_at, tile_at, tile_record}
use Rattle.format.proofs.Below.{by_bool, none, all-intro}
use Rattle.entries.proofs.EntryLaws.{letter-placed}
use Rattle.selection.specs.Select.{tile_start, start_count, free, has_start, selects, chooses}
use Rattle.selection.proofs.Starts.{has-start, selected-start, selected-whole}
use Rattle.layered.specs.Dimensions.{letter_of, start_of, size_of}
use Rattle.layered.specs.Claims.{Selecting, StartHeld, Selected}
use Rattle.layered.proofs.Places.{letter-found, letter-stands, letter-lacking, letter-none}

-- ---- the letters that select

-- those that are not free, by the test
selecting-is : (any_scene : Bool) (x : ℕ) → free any_scene x ≡ false → Selecting any_scene x
unfolding free
selecting-is any_scene x f = record {
  no-x = eqb-false x 88 (none _ f 0);
  no-y = eqb-false x 89 (none _ f 1);
  no-m = eqb-false x 77 (none _ f 2);
  no-s = λ s. eqb-false x 83 (rw s at (none _ f 3));
}

is-selecting : (any_scene : Bool) (x : ℕ) → Selecting any_scene x → free any_scene x ≡ false
unfolding free any_of
is-selecting true x s = rw (ne_eqb x 88 s.no-x, ne_eqb x 89 s.no-y, ne_eqb x 77 s.no-m, ne_eqb x 83 (s.no-s refl))
is-selecting false x s = rw (ne_eqb x 88 s.no-x, ne_eqb x 89 s.no-y, ne_eqb x 77 s.no-m)

-- ---- the starts of a letter

-- q is one of the starts that the tile of the entry at e has in the letter x
abbrev Among : List ℕ → ℕ → ℕ → ℕ → Type 0
Among bs e x q = (tile_start bs e x ≤ q) × (q < tile_start bs e x + start_count bs e x)

-- q is one of the starts that dimension k has
abbrev AmongAt : List ℕ → ℕ → ℕ → ℕ → Type 0
AmongAt bs e k q = (biased (start_of bs e k) ≤ q) × (q < biased (start_of bs e k) + size_of bs e k)

module _ (bs : List ℕ) (e x : ℕ) where
  -- they are those of the dimension of that letter
  module _ (d : dimensions_bad bs e ≡ false) (k : ℕ) (l : k < dimension_count bs e) (i : letter_of bs e k ≡ x) where
    start-of : tile_start bs e x ≡ biased (start_of bs e k)
    unfolding tile_start
    start-of = rw (letter-found bs e x k l i, letter-stands bs e x k l i d)

    count_of : start_count bs e x ≡ size_of bs e k
    unfolding start_count
    count_of = rw (letter-found bs e x k l i, letter-stands bs e x k l i d)

    among-at : (q : ℕ) → Among bs e x q → AmongAt bs e k q
    among-at q a = rw (start-of, count_of) at a

    at-among : (q : ℕ) → AmongAt bs e k q → Among bs e x q
    at-among q a = rw (start-of, count_of) a

  -- and 0 alone where the tile lacks the letter
  module _ (n : any_below (dimension_count bs e) (has_letter bs e x) ≡ false) where
    start-lacking : tile_start bs e x ≡ 2 ^ 31
    unfolding tile_start
    start-lacking = rw n

    count-lacking : start_count bs e x ≡ 1
    unfolding start_count
    count-lacking = rw n

    among-zero : (q : ℕ) → Among bs e x q → q ≡ 2 ^ 31
    among-zero q a = let b = rw (start-lacking, count-lacking) at a in omega (arith, b.0, b.1)

    zero-among : (q : ℕ) → q ≡ 2 ^ 31 → Among bs e x q
    zero-among q z = rw (start-lacking, count-lacking) (omega arith, omega arith)

-- ---- tile n, whose dimensions are right

-- its starts in the letter x
module _ (ch : Choice) (n : ℕ) (d : dimensions_bad ch.scan.file (tile_entry ch.scan n) ≡ false) (x : ℕ) where
  among-held : Among ch.scan.file (tile_entry ch.scan n) x (asked_start ch.starts x) → StartHeld ch n x
  among-held a = record {
    held = λ k l i. among-at ch.scan.file (tile_entry ch.scan n) x d k l i _ a;
    lacking = λ f. among-zero ch.scan.file (tile_entry ch.scan n) x (letter-none ch.scan.file (tile_entry ch.scan n) x f) _ a;
  }

  held-among : StartHeld ch n x → Among ch.scan.file (tile_entry ch.scan n) x (asked_start ch.starts x)
  unfolding letter_place
  held-among h =
      let bs = ch.scan.file in
      let e = tile_entry ch.scan n in
      by_bool (any_below (dimension_count bs e) (has_letter bs e x))
      (λ f.
      let p = letter-placed bs e x f in
      at-among bs e x d (letter_index bs e x) p.index p.letter-is _ (h.held (letter_index bs e x) p.index p.letter-is))
      (λ f. zero-among bs e x f _ (h.lacking (letter-lacking bs e x f)))

-- the test of a letter that selects, and of one that does not
among-has : (bs : List ℕ) (e x : ℕ) (starts : List ℤ) (any_scene : Bool) → free any_scene x ≡ false → Among bs e x (asked_start starts x)
    → has_start bs e starts any_scene x ≡ true
unfolding has_start
among-has bs e x starts any_scene f a = rw (f, le-leb _ _ a.0, lt-ltb _ _ a.1)

free-has : (bs : List ℕ) (e x : ℕ) (starts : List ℤ) (any_scene : Bool) → free any_scene x ≡ true → has_start bs e starts any_scene x ≡ true
unfolding has_start
free-has bs e x starts any_scene f = rw f

-- all letters
module _ (ch : Choice) (n : ℕ) (d : dimensions_bad ch.scan.file (tile_entry ch.scan n) ≡ false) where
  is-selected : chooses ch n ≡ true → Selected ch n
  unfolding tile_record tile_at extent_at is_pyramid
  is-selected c =
      let bs = ch.scan.file in
      let e = tile_entry ch.scan n in
      let whole = selected-whole bs ch.starts ch.any_scene e c in
      record {
        x_whole = eqb-true _ _ (not-false _ (none _ whole 0));
        y_whole = eqb-true _ _ (not-false _ (none _ whole 1));
        starts = λ x a z s.
            among-held ch n d x
            (has-start bs e ch.starts ch.any_scene x (is-selecting ch.any_scene x s) (selected-start bs ch.starts ch.any_scene e x c a z));
      }

  -- X and Y are stored whole
  whole_is : Selected ch n → is_pyramid ch.scan.file (tile_entry ch.scan n) ≡ false
  unfolding tile_record tile_at extent_at is_pyramid any_of
  whole_is s = rw (eq-eqb _ _ s.x_whole, eq-eqb _ _ s.y_whole)

  selected-is : Selected ch n → chooses ch n ≡ true
  unfolding selects
  selected-is s =
      let bs = ch.scan.file in
      let e = tile_entry ch.scan n in
      rw (whole_is s)
      (all-intro 26 _
      (λ i l.
      by_bool (free ch.any_scene (65 + i))
      (free-has bs e (65 + i) ch.starts ch.any_scene)
      (λ f.
      among-has bs e (65 + i) ch.starts ch.any_scene f
      (held-among ch n d (65 + i) (s.starts (65 + i) (omega arith) (omega arith) (selecting-is ch.any_scene (65 + i) f))))))

  pub selected-iff : (chooses ch n ≡ true) ↔ Selected ch n
  selected-iff = (is-selected, selected-is)
