-- The loops that select: over the letters of an entry, and over the entries of an accepted file. Assumes nothing.
use Prim.Native.Nat.{ℕ, zero, suc, ◌+◌, ◌≤◌, ◌<◌}
use mathlib.Core.Path.{◌≡◌, refl, sym, ap, ◌∙◌}
use mathlib.Core.List.{List, ◌∷◌, [], ◌++◌}
use mathlib.Core.Bool.{Bool, true, false, cond, not, and-true}
use mathlib.Core.Logic.{⊎_elim}
use native.Mathlib.Nat.{eq-or-lt_of_le}
use native.Mathlib.Omega.{arith}
use lib.ListN.{length, get_or, set, length-set}
use lib.IntN.{ℤ}
use lib.Seq.{get_or-set_same, get_or-set_other}
use Rattle.std.specs.List.{list_all, range_with_len}
use Rattle.std.proofs.lemmas.List.Folds.{list_all-append}
use Rattle.format.specs.Bytes.{all_below}
use Rattle.format.specs.Entry.{next_entry, is_pyramid}
use Rattle.format.specs.Directory.{tile_count, entry_place}
use Rattle.format.specs.Rules.{AcceptedFile}
use Rattle.format.proofs.Flags.{is-true-not, is-false-not}
use Rattle.judge.proofs.AcceptedFile.{tiled-file}
use Rattle.judge.proofs.EntryLoop.{AtEntry, at-start, at_next}
use Rattle.selection.specs.Select.{has_start, selects}
use Rattle.selection.specs.Table.{Selection}

-- ---- the letters, which a range goes through

range-last : (a n j : ℕ) → a + n ≡ j → range_with_len a (suc n) ≡ range_with_len a n ++ j ∷ []
range-last a zero j e = let f : a ≡ j = omega arith in rw f
range-last a (suc n) j e = ap (λ l. a ∷ l) (range-last (a + 1) n j (omega arith))

all-range : (a n : ℕ) (t : ℕ → Bool) → list_all t (range_with_len a n) ≡ all_below n (λ i. t (a + i))
unfolding all_below
all-range a zero t = refl
all-range a (suc n) t = ap (list_all t) (range-last a n (a + n) refl) ∙ rw (list_all-append, all-range a n t, and-true (t (a + n)))

-- p says whether it is a pyramid tile
module _ (bs : List ℕ) (e : ℕ) (starts : List ℤ) (any_scene p : Bool) (h : p ≡ is_pyramid bs e) where
  pub letters-fit : not p ≡ true → list_all (has_start bs e starts any_scene) (range_with_len 65 26) ≡ selects bs starts any_scene e
  unfolding selects
  letters-fit n = rw (is-false-not p _ h n) (all-range 65 26 (has_start bs e starts any_scene))

  pub pyramid-none : not p ≡ false → not p ≡ selects bs starts any_scene e
  unfolding selects
  pyramid-none n = rw (is-true-not p _ h n, n)

-- ---- the loop over the entries of an accepted file: those below k are in the table, and the next is at e

pub record Selecting (bs : List ℕ) (starts : List ℤ) (any_scene : Bool) (before table : List ℕ) (n e k : ℕ) : Type 0 where
  pub whole : n ≡ tile_count bs
  pub at : AtEntry bs n e k
  pub size-was : length before ≡ 4096
  pub size : length table ≡ 4096
  pub done : (i : ℕ) → i < k → get_or table i 0 ≡ cond (selects bs starts any_scene (entry_place bs i)) (entry_place bs i) 0
  pub rest : (i : ℕ) → k ≤ i → get_or table i 0 ≡ get_or before i 0

module _ (bs : List ℕ) (starts : List ℤ) (any_scene : Bool) (before : List ℕ) where
  pub selecting_start : (n e : ℕ) → length before ≡ 4096 → n ≡ tile_count bs → e ≡ entry_place bs 0 → Selecting bs starts any_scene before before n e 0
  selecting_start n e size f g = record {
    whole = f;
    at = at-start bs n e g;
    size-was = size;
    size = size;
    done = λ i h. absurd (omega arith);
    rest = λ i h. refl;
  }

  module _ (t : List ℕ) (n e k : ℕ) (w : Selecting bs starts any_scene before t n e k) where
    -- the entries are those of the file, and fit the table
    pub selecting-all : n ≤ tile_count bs
    selecting-all = omega (arith, w.whole)

    pub selecting-few : AcceptedFile bs → n ≤ 4096
    selecting-few a = rw w.whole (tiled-file bs a).few

    pub selecting-next : (v q : ℕ) → AcceptedFile bs → k < n → v ≡ cond (selects bs starts any_scene e) e 0 → q ≡ next_entry bs e
        → Selecting bs starts any_scene before (set t k v) n q (k + 1)
    selecting-next v q a h f g = record {
      whole = w.whole;
      at = at_next bs n e k w.at q h g;
      size-was = w.size-was;
      size = length-set t k v ∙ w.size;
      done = done';
      rest = λ i l. get_or-set_other t k i v 0 (λ z. omega arith) ∙ w.rest i (omega arith);
    }
      where
        in_table : k < length t
        in_table = omega (arith, w.size, selecting-few a)

        here : get_or (set t k v) k 0 ≡ cond (selects bs starts any_scene (entry_place bs k)) (entry_place bs k) 0
        here = get_or-set_same t k v 0 in_table ∙ rw (← w.at.place) f

        done' : (i : ℕ) → i < k + 1 → get_or (set t k v) i 0 ≡ cond (selects bs starts any_scene (entry_place bs i)) (entry_place bs i) 0
        done' i l =
            let m : i ≤ k = omega arith in
            ⊎_elim
            (λ z. rw z here)
            (λ b. get_or-set_other t k i v 0 (λ z. omega arith) ∙ w.done i b)
            (eq-or-lt_of_le m)

    pub selecting-end : n ≤ k → Selection bs starts any_scene before t n
    selecting-end h =
        let m : k ≡ tile_count bs = omega (arith, w.whole, w.at.count) in
        record {
          count-is = w.whole;
          size_is = w.size ∙ sym w.size-was;
          entry-is = λ i l. w.done i (omega arith);
          rest-is = λ i l. w.rest i (omega arith);
        }
