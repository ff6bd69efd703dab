-- What is counted is what the composers use: as many tiles as they select, and no covered pixel where none of them meets the window. Assumes nothing.
use Prim.Native.Nat.{ℕ, zero, suc, ◌+◌, ◌<◌}
use mathlib.Core.Path.{◌≡◌, refl, sym, ◌∙◌}
use mathlib.Core.List.{List, ◌∷◌}
use mathlib.Core.Bool.{Bool, true, false, cond, ◌||◌, true≢false}
use mathlib.Core.Logic.{⊎_elim}
use native.Mathlib.Nat.{eq-or-lt_of_le, le_of_suc-le-suc}
use native.Mathlib.Omega.{arith}
use lib.ListN.{length}
use Rattle.format.specs.Choice.{Choice}
use Rattle.format.specs.Directory.{tile_count}
use Rattle.format.specs.Records.{tile_entry}
use Rattle.format.proofs.Below.{and_both}
use Rattle.format.proofs.Firsts.{by-verdict}
use Rattle.format.specs.Checks.{Accepted}
use Rattle.plane.specs.Sums.{one, sum, count}
use Rattle.plane.specs.Tiles.{covers, covered, within}
use Rattle.plane.specs.Turns.{Kind}
use Rattle.plane.specs.declared.Rect.{Rect}
use Rattle.plane.proofs.Tests.{by_bool}
use Rattle.plane.proofs.Partitions.{within_none}
use Rattle.tiles.specs.FileTile.{rectangle, entry_tile, file_tile, tiles_below}
use Rattle.question.specs.Call.{Asked, choice_of, chosen, call_verdict, asked_window, selected, answer, covered_in}
use Rattle.question.proofs.Calls.{room, runs, covered-is}
use Rattle.counting.specs.Chosen.{selects_at, meets_at, counts_below, counts_of}
use Rattle.counting.specs.Claims.{sought_in, AllUsed}
use Rattle.counting.proofs.Sharing.{shared-shares}

-- ---- how many

tiles-length : (n : ℕ) (ch : Choice) (chosen : ℕ → Bool) → length (tiles_below n ch chosen) ≡ count n chosen
unfolding tiles_below sum
tiles-length zero ch chosen = refl
tiles-length (suc n) ch chosen = go (chosen n) (tiles-length n ch chosen)
  where
    go : (b : Bool) → length (tiles_below n ch chosen) ≡ count n chosen
        → length (cond b (file_tile ch n ∷ tiles_below n ch chosen) (tiles_below n ch chosen)) ≡ count n chosen + one b
    go true e = omega (arith, e)
    go false e = omega (arith, e)

as-selected : (a : Asked) (w : Rect) → (counts_of (sought_in a w)).selected ≡ length (selected a)
unfolding counts_below selects_at selected
as-selected a w = sym (tiles-length (tile_count a.scan.file) (choice_of a) (chosen a))

-- a count of 0: of none of the numbers does the test hold
count-zero : (n : ℕ) (f : ℕ → Bool) → count n f ≡ 0 → (i : ℕ) → i < n → f i ≡ false
unfolding sum
count-zero zero f e i h = absurd (omega arith)
count-zero (suc n) f e i h =
    ⊎_elim (λ q. rw q (last (f n) (omega (arith, e)))) (λ l. count-zero n f (omega (arith, e)) i l) (eq-or-lt_of_le (le_of_suc-le-suc h))
  where
    last : (b : Bool) → one b ≡ 0 → b ≡ false
    last true z = absurd (omega (arith, z))
    last false z = refl

-- ---- a covered pixel is one of the rectangle of a chosen entry

pub record CoveredBy (ch : Choice) (chosen : ℕ → Bool) (n u v : ℕ) : Type 0 where
  pub entry : ℕ
  pub below : entry < n
  pub is-chosen : chosen entry ≡ true
  pub covers-it : covers (rectangle ch.scan.file (tile_entry ch.scan entry)) u v ≡ true

tile-covers : (ch : Choice) (k u v : ℕ) → (file_tile ch k).gives u v ≡ true → covers (rectangle ch.scan.file (tile_entry ch.scan k)) u v ≡ true
unfolding file_tile entry_tile
tile-covers ch k u v e = (and_both (covers (rectangle ch.scan.file (tile_entry ch.scan k)) u v) _ e).0

module _ (ch : Choice) (chosen : ℕ → Bool) (u v : ℕ) where
  later : {n : ℕ} → CoveredBy ch chosen n u v → CoveredBy ch chosen (suc n) u v
  later i = record { entry = i.entry; below = omega (arith, i.below); is-chosen = i.is-chosen; covers-it = i.covers-it }

  pub covered-by : (n : ℕ) → covered (tiles_below n ch chosen) u v ≡ true → CoveredBy ch chosen n u v
  unfolding tiles_below covered
  covered-by zero e = absurd (true≢false (sym e))
  covered-by (suc n) e = go (chosen n) refl (λ d. later (covered-by n d)) e
    where
      Rest : Type 0
      Rest = covered (tiles_below n ch chosen) u v ≡ true → CoveredBy ch chosen (suc n) u v

      here : chosen n ≡ true → (g : Bool) → (file_tile ch n).gives u v ≡ g → Rest → (g || covered (tiles_below n ch chosen) u v) ≡ true
          → CoveredBy ch chosen (suc n) u v
      here c true q r d = record { entry = n; below = omega arith; is-chosen = c; covers-it = tile-covers ch n u v q }
      here c false q r d = r d

      go : (b : Bool) → chosen n ≡ b → Rest → covered (cond b (file_tile ch n ∷ tiles_below n ch chosen) (tiles_below n ch chosen)) u v ≡ true
          → CoveredBy ch chosen (suc n) u v
      go true c r d = here c ((file_tile ch n).gives u v) refl r d
      go false c r d = r d

-- of what a question selects
pub selected-by : (a : Asked) (u v : ℕ) → covered (selected a) u v ≡ true → CoveredBy (choice_of a) (chosen a) (tile_count a.scan.file) u v
unfolding selected
selected-by a u v e = covered-by (choice_of a) (chosen a) u v (tile_count a.scan.file) e

-- ---- no tile meets the window

module _ (a : Asked) (w : Rect) (z : (counts_of (sought_in a w)).meeting ≡ 0) where
  meets-none : (k : ℕ) → k < tile_count a.scan.file → meets_at (sought_in a w) (tile_entry a.scan k) ≡ false
  unfolding counts_below
  meets-none = count-zero (tile_count a.scan.file) (λ k. meets_at (sought_in a w) (tile_entry a.scan k)) z

  not_covered : (u v : ℕ) → covers w u v ≡ true → covered (selected a) u v ≡ false
  unfolding meets_at selects_at
  not_covered u v c = by_bool (covered (selected a) u v) (λ e. absurd (clash (selected-by a u v e))) (λ e. e)
    where
      clash : CoveredBy (choice_of a) (chosen a) (tile_count a.scan.file) u v → ⊥
      clash i =
          let s = shared-shares (rectangle a.scan.file (tile_entry a.scan i.entry)) w (record { u = u; v = v; first = i.covers-it; second = c }) in
          true≢false (rw (i.is-chosen, s) at (meets-none i.entry i.below))

  covers-none : within w (covered (selected a)) ≡ 0
  covers-none = within_none w (covered (selected a)) not_covered

-- an accepted call's covered count
pub count-is : (a : Asked) (k : Kind) (t m : List ℕ) → call_verdict a (length t) (length m) ≡ Accepted
    → covered_in (answer k a t m) ≡ within (asked_window a) (covered (selected a))
count-is a k t m e = covered-is a t m e k ∙ (runs a t m e).covered-is k (asked_window a) t m (room a t m e)

counts-none : (a : Asked) → (counts_of (sought_in a (asked_window a))).meeting ≡ 0 → (k : Kind) (t m : List ℕ) → covered_in (answer k a t m) ≡ 0
unfolding answer
counts-none a z k t m =
    by-verdict (call_verdict a (length t) (length m)) (λ e. count-is a k t m e ∙ covers-none a (asked_window a) z) (λ r e. rw e)

pub all-used : AllUsed
all-used a = record { selected_are = as-selected a; none_covered = covers-none a; none_counted = counts-none a }
