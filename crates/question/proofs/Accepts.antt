-- A call is accepted exactly where no refusal is given: not one of the file's own, nor 20, 21, 22, nor 23 at an entry. Assumes nothing.
use Prim.Native.Nat.{ℕ, ◌<◌, ◌≤◌}
use mathlib.Core.Path.{◌≡◌, ◌∙◌}
use mathlib.Core.List.{List, ◌++◌}
use mathlib.Core.Bool.{false, cond}
use borrow.Author.Tests.{ltb-false}
use Rattle.format.specs.Scan.{Scan}
use Rattle.format.specs.Checks.{Check, first}
use Rattle.format.specs.Directory.{tile_count, entry_place, directory_bad}
use Rattle.format.specs.Rules.{checks, verdict}
use Rattle.format.specs.Checks.{Accepted}
use Rattle.format.proofs.Below.{none}
use Rattle.format.proofs.Firsts.{first-both, first-pass, passed}
use Rattle.format.proofs.FileRows.{directory-ok}
use Rattle.format.proofs.Acceptance.{verdict-parts}
use Rattle.question.specs.Question.{window_bad, pixel_bad, lent_bad, ask_rows, type_bad, agree_rows}
use Rattle.question.specs.Call.{Asked, chosen, call_verdict, asked_window}
use Rattle.question.proofs.Agreeing.{agree-ok, agree-accepted}

-- the lent target and map have these lengths
pub record Accepts (a : Asked) (target map : ℕ) : Type 0 where
  pub file : first (checks a.scan) ≡ Accepted
  pub window : window_bad (asked_window a) ≡ false
  pub pixel : pixel_bad a.request.pixel_type a.background ≡ false
  pub lent : lent_bad (asked_window a) a.request.pixel_type target map ≡ false
  pub agree : (k : ℕ) → k < tile_count a.scan.file
      → cond (chosen a k) (type_bad a.scan.file (asked_window a) a.request.pixel_type (entry_place a.scan.file k)) false ≡ false

-- the rows of 20, 21, 22, and those of 23
abbrev asks : Asked → ℕ → ℕ → List Check
asks a target map = ask_rows a.request a.background target map

abbrev agrees : Asked → List Check
agrees a = agree_rows a.scan.file (chosen a) (asked_window a) a.request.pixel_type

module _ (a : Asked) (target map : ℕ) where
  pub call_ok : call_verdict a target map ≡ Accepted → Accepts a target map
  unfolding call_verdict ask_rows
  call_ok e =
      let whole = first-both (checks a.scan) (asks a target map ++ agrees a) e in
      let asked = first-both (asks a target map) (agrees a) whole.1 in
      let g = passed (asks a target map) asked.0 in
      record {
        file = whole.0;
        window = g 0;
        pixel = g 1;
        lent = g 2;
        agree = agree-ok a.scan.file (chosen a) (asked_window a) a.request.pixel_type asked.1;
      }

  pub call-accepted : Accepts a target map → call_verdict a target map ≡ Accepted
  unfolding call_verdict ask_rows
  call-accepted p =
      first-pass (checks a.scan) _ p.file
      ∙ (rw (p.window, p.pixel, p.lent) (agree-accepted a.scan.file (chosen a) (asked_window a) a.request.pixel_type p.agree))

-- an accepted file has at most 4,096 entries
pub few-tiles : (sc : Scan) → first (checks sc) ≡ Accepted → tile_count sc.file ≤ 4096
unfolding verdict tile_count directory_bad
few-tiles sc e = ltb-false _ _ (none _ (directory-ok sc (verdict-parts sc e).directory).0 2)
