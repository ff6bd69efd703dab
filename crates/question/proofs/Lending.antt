-- A call that is lent one thing more, which may be too short, and how many pixels any call covers at most. Assumes nothing.
use Prim.Native.Nat.{ℕ, ◌*◌, ◌≤◌, ◌<◌}
use mathlib.Core.Path.{◌≡◌, refl, sym, ◌∙◌}
use mathlib.Core.List.{List, ◌++◌, ◌∷◌}
use mathlib.Core.Bool.{true, false}
use native.Mathlib.Nat.{mul-le-mul, mul-pos, le_trans}
use native.Mathlib.Omega.{arith}
use lib.ListN.{length}
use borrow.Author.Tests.{lt-ltb}
use Rattle.format.specs.Bytes.{any_of}
use Rattle.format.specs.Entry.{pixel_bytes}
use Rattle.format.specs.Checks.{Check, row, first}
use Rattle.format.specs.Rules.{checks}
use Rattle.format.specs.Checks.{Accepted, Refused}
use Rattle.format.proofs.Below.{by_bool}
use Rattle.format.proofs.Firsts.{by-verdict, first-append, first-both, first-pass}
use Rattle.plane.specs.Paint.{bit}
use Rattle.plane.specs.Tiles.{area}
use Rattle.plane.specs.Turns.{Kind}
use Rattle.plane.specs.declared.Rect.{Rect}
use Rattle.plane.proofs.SumLaws.{count-le}
use Rattle.question.specs.Question.{window_bad, pixel_bad, lent_bad, ask_rows, agree_rows}
use Rattle.question.specs.Call.{Asked, chosen, call_verdict, lending_verdict, asked_window, painted, answer, covered_in}
use Rattle.question.proofs.Asking.{window-ok, pixel-ok}
use Rattle.question.proofs.Accepts.{call_ok}
use Rattle.question.proofs.Calls.{proper}
use Rattle.format.specs.declared.Fault.TheVariants as Fault

-- the rows of 20, 21, 22, and those of 23
abbrev asks : Asked → ℕ → ℕ → List Check
asks a target map = ask_rows a.request a.background target map

abbrev agrees : Asked → List Check
agrees a = agree_rows a.scan.file (chosen a) (asked_window a) a.request.pixel_type

same-behind : (cs bs ds : List Check) → first bs ≡ first ds → first (cs ++ bs) ≡ first (cs ++ ds)
same-behind cs bs ds e = first-append cs bs ∙ rw e (sym (first-append cs ds))

-- a window that is right has a pixel, and a listed type a byte: an empty target is too short
empty-short : (w : Rect) (t : ℕ) (background : List ℕ) (map : ℕ) → window_bad w ≡ false → pixel_bad t background ≡ false → lent_bad w t 0 map ≡ true
unfolding lent_bad any_of
empty-short w t background map e f =
    let p = window-ok w e in
    let some : 0 < w.height * w.width * pixel_bytes t = mul-pos (mul-pos p.high p.wide) (pixel-ok t background f).0 in
    rw (lt-ltb 0 (w.height * w.width * pixel_bytes t) some)

module _ (a : Asked) (target map : ℕ) where
  -- it is long enough: the call's own refusals
  pub lending-enough : lending_verdict a target map false ≡ call_verdict a target map
  unfolding lending_verdict call_verdict
  lending-enough =
      same-behind (checks a.scan) (asks a target map ++ (row Fault.LentTooShort 0 false ∷ agrees a)) (asks a target map ++ agrees a)
      (same-behind (asks a target map) (row Fault.LentTooShort 0 false ∷ agrees a) (agrees a) refl)

  -- it is too short: those of the call that is lent an empty target
  pub lending-short : lending_verdict a target map true ≡ call_verdict a 0 map
  unfolding lending_verdict call_verdict ask_rows
  lending-short =
      let w = asked_window a in
      let t = a.request.pixel_type in
      same-behind (checks a.scan) (asks a target map ++ (row Fault.LentTooShort 0 true ∷ agrees a)) (asks a 0 map ++ agrees a)
      (by_bool (window_bad w) (λ e. rw e)
      (λ e. by_bool (pixel_bad t a.background) (λ f. rw (e, f))
      (λ f. rw (e, f, empty-short w t a.background map e f) (by_bool (lent_bad w t target map) (λ g. rw g) (λ g. rw g)))))

  pub short-refused : lending_verdict a target map true ≡ Accepted → ⊥
  unfolding lending_verdict
  short-refused e =
      let whole = first-both (checks a.scan) (asks a target map ++ (row Fault.LentTooShort 0 true ∷ agrees a)) e in
      let last = (first-both (asks a target map) (row Fault.LentTooShort 0 true ∷ agrees a) whole.1).1 in
      let z : ◌≡◌ {A = ℕ} 0 1 = cc last in
      omega arith

-- too short, where a call with some target and map is accepted: 22 at 0
pub short-is-22 : (a : Asked) (target map t m : ℕ) → call_verdict a t m ≡ Accepted → lending_verdict a target map true ≡ Refused Fault.LentTooShort 0
unfolding call_verdict ask_rows
short-is-22 a target map t m e =
    let o = call_ok a t m e in
    let w = asked_window a in
    let p = a.request.pixel_type in
    lending-short a target map
    ∙ first-pass (checks a.scan) (asks a 0 map ++ agrees a) o.file
    ∙ rw (o.window, o.pixel, empty-short w p a.background map o.window o.pixel)

-- at most 65,536 rows of 65,536 pixels; a refused call gives 0
pub covered-most : (k : Kind) (a : Asked) (t m : List ℕ) → covered_in (answer k a t m) ≤ 4294967296
unfolding answer
covered-most k a t m =
    by-verdict (call_verdict a (length t) (length m))
    (λ e.
    let p = proper a t m e in
    let most : area (asked_window a) ≤ 4294967296 = mul-le-mul p.low p.narrow in
    rw e (le_trans (count-le (area (asked_window a)) (bit (painted k a t m).map)) most))
    (λ f e. rw e (omega arith))
