-- A call by its verdict: what is so where it is accepted, and what it then answers and leaves. Assumes nothing.
use Prim.Native.Nat.{ℕ}
use mathlib.Core.Path.{◌≡◌}
use mathlib.Core.List.{List}
use lib.ListN.{length}
use Rattle.format.specs.Directory.{tile_count}
use Rattle.format.specs.Checks.{Accepted}
use Rattle.plane.specs.Paint.{ones}
use Rattle.plane.specs.Tiles.{Ranked, area}
use Rattle.plane.specs.Turns.{Kind}
use Rattle.plane.specs.Demand2.{Room}
use Rattle.plane.specs.Cuts.{Proper}
use Rattle.plane.specs.Demand3 as Runs
use Rattle.plane.proofs.Demand3.{demand3}
use Rattle.question.specs.Call.{Asked, choice_of, chosen, call_verdict, asked_window, asked_bytes}
use Rattle.question.specs.Call.{selected, painted, answer, target_after, map_after, covered_in}
use Rattle.question.specs.Demand3.{after}
use Rattle.question.proofs.Ranks.{tiles-ranked}
use Rattle.question.proofs.Asking.{window-ok, pixel-ok, lent_ok}
use Rattle.question.proofs.Accepts.{call_ok, few-tiles}

module _ (a : Asked) (t m : List ℕ) (e : call_verdict a (length t) (length m) ≡ Accepted) where
  -- ---- what was asked and lent

  pub proper : Proper (asked_window a)
  proper = window-ok (asked_window a) (call_ok a (length t) (length m) e).window

  pub room : Room (asked_window a) (asked_bytes a) t m
  room =
      let o = call_ok a (length t) (length m) e in
      let l = lent_ok (asked_window a) a.request.pixel_type (length t) (length m) o.lent in
      record {
        wide = proper.wide;
        high = proper.high;
        bytes = (pixel-ok a.request.pixel_type a.background o.pixel).0;
        target = l.0;
        map = l.1;
      }

  -- ---- the selected tiles

  pub ranked : Ranked (selected a)
  unfolding selected
  ranked =
      tiles-ranked (choice_of a) (chosen a) (tile_count a.scan.file)
      (few-tiles a.scan (call_ok a (length t) (length m) e).file)

  pub runs : Runs.Demand3 (asked_bytes a) a.background (selected a)
  runs = demand3 (asked_bytes a) a.background (selected a) ranked

  -- ---- the answer and the end state

  pub after_is : (k : Kind) → after k a t m ≡ painted k a t m
  unfolding answer target_after map_after
  after_is k = rw e

  pub covered-is : (k : Kind) → covered_in (answer k a t m) ≡ ones (area (asked_window a)) (painted k a t m).map
  unfolding answer
  covered-is k = rw e
