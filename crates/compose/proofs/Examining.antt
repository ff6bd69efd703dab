-- The refusals of a call, one stage after another, and what an accepted one tells the painting. Assumes nothing.
use Prim.Native.Nat.{ℕ, zero, suc, ◌≤◌, ◌<◌}
use mathlib.Core.Path.{◌≡◌, refl, sym, ap, ◌∙◌}
use mathlib.Core.List.{List}
use mathlib.Core.Bool.{Bool, true, false, cond, not, true≢false}
use native.Mathlib.Omega.{arith}
use native.Mathlib.Nat.{mul-le-mul}
use lib.ListN.{length, get_or}
use lib.Dec.{eqb}
use borrow.Author.Tests.{eqb-true, eqb-false, not-false, not-true}
use lib.IntN.{ℤ}
use Rattle.format.specs.Choice.{Choice}
use Rattle.std.specs.Prelude.{Ok, Err}
use Rattle.format.specs.Checks.{Verdict, Accepted, Check, first, rows_below}
use Rattle.format.specs.Entry.{pixel_type}
use Rattle.format.specs.Directory.{tile_count, entry_place}
use Rattle.format.specs.Rules.{checks, verdict, AcceptedFile}
use Rattle.format.specs.declared.Refusal.{Refusal}
use Rattle.format.proofs.Firsts.{passed}
use Rattle.directory.proofs.Stages.{then-stop, then_next}
use Rattle.plane.specs.declared.Rect.{Rect}
use Rattle.plane.specs.Paint.{ones}
use Rattle.plane.specs.Tiles.{area}
use Rattle.plane.specs.Turns.{Painting, Kind, compose}
use Rattle.tiles.specs.FileTile.{rectangle, meets, file_tile, tiles_below, paints}
use Rattle.selection.specs.Table.{Selection}
use Rattle.selection.proofs.Chosen.{not_chosen, is-chosen}
use Rattle.selection.proofs.Starts.{selected-whole, selected-layer}
use Rattle.judge.proofs.AcceptedFile.{tiled}
use Rattle.question.specs.Question.{masks_on, type_bad, ask_rows, agree_rows, request_window, window_bad}
use Rattle.question.specs.Call.{Asked, choice_of, chosen, call_verdict, asked_window, asked_bytes, selected, painted, counts, answer, target_after, map_after, Answered}
use Rattle.question.specs.declared.WindowRequest.{WindowRequest}
use Rattle.question.specs.declared.Counts.{Counts}
use Rattle.question.proofs.Accepts.{call_ok}
use Rattle.question.proofs.Asking.{window-ok, pixel-ok}
use Rattle.question.proofs.Calls.{room}
use Rattle.compose.specs.Steps.{chosen_in, Chosen, Edges, PlaneRoom, PlaneDone, starts_select, Selects, ExamineAnswered}
use Rattle.compose.proofs.KeyTiles.{tiles-ext}

-- ---- the table of a selection chooses as the starts do

module _ (bs : List ℕ) (starts : List ℤ) (any_scene : Bool) {before table : List ℕ} {n : ℕ} (accepted : AcceptedFile bs) (size : length before ≡ 4096)
    (s : Selection bs starts any_scene before table n) where
  here : (k : ℕ) → k < tile_count bs → k < n
  here k h = rw s.count-is h

  some : (k : ℕ) → chosen_in table k ≡ true → get_or table k 0 ≡ 0 → ⊥
  some k h = eqb-false (get_or table k 0) 0 (not-true _ h)

  as-starts : (k : ℕ) → k < tile_count bs → chosen_in table k ≡ starts_select bs starts any_scene k
  as-starts k h = go (eqb (get_or table k 0) 0) refl
    where
      go : (b : Bool) → eqb (get_or table k 0) 0 ≡ b → not b ≡ starts_select bs starts any_scene k
      go true e = sym (not_chosen bs starts any_scene before table n s k (here k h) (eqb-true (get_or table k 0) 0 e))
      go false e = sym (is-chosen bs starts any_scene before table n s k (here k h) (eqb-false (get_or table k 0) 0 e)).0

  pub selects-table : Selects bs starts any_scene table
  selects-table = record {
    table_is = record {
      accepted = accepted;
      size = s.size_is ∙ size;
      place = λ k h c. (is-chosen bs starts any_scene before table n s k (here k h) (some k c)).1;
      whole = λ k h c. selected-whole bs starts any_scene (entry_place bs k) (sym (as-starts k h) ∙ c);
    };
    as_asked = as-starts;
  }

  pub table-chosen : Chosen bs table
  table-chosen = selects-table.table_is

-- ---- refusal 23 over the table is that over the selection

rows_ext : (n : ℕ) (f g : ℕ → List Check) → ((k : ℕ) → k < n → f k ≡ g k) → rows_below n f ≡ rows_below n g
unfolding rows_below
rows_ext zero f g h = refl
rows_ext (suc n) f g h = rw (rows_ext n f g (λ k l. h k (omega arith)), h n (omega arith))

-- ---- the window as the code has it

pub sides-fit : (f : WindowRequest) → window_bad (request_window f) ≡ false → (f.width ≤ 65536) × (f.height ≤ 65536)
sides-fit f h = let p = window-ok (request_window f) h in (p.narrow, p.low)

pub edges_fit : {w : Rect} (v : Rect) → w ≡ v → window_bad v ≡ false → Edges w
edges_fit {w} v e h =
    let p = window-ok w (rw e h) in
    record { right = omega (arith, p.right); bottom = omega (arith, p.bottom) }

-- what is asked, where no row refuses it
pub asked-window : (f : WindowRequest) (background : List ℕ) (target map : ℕ) (v : Verdict) → v ≡ first (ask_rows f background target map) → v ≡ Accepted
    → window_bad (request_window f) ≡ false
unfolding ask_rows
asked-window f background target map v h e = passed (ask_rows f background target map) (sym h ∙ e) 0

-- ---- one stage after another

refuses-none : {A : Type 0} {r : Refusal} → Err r ≡ Accepted → A
refuses-none e = let z : ◌≡◌ {A = ℕ} 0 1 = cc in absurd (omega arith)

module _ (a : Asked) (target map : ℕ) where
  pub judge-stops : {table : List ℕ} {r : Refusal} {v : Verdict} → v ≡ verdict a.scan → v ≡ Err r → ExamineAnswered a target map table (Err r)
  unfolding call_verdict verdict
  judge-stops {v = v} h e = record { verdict-is = then-stop v (checks a.scan) _ _ h e; selects_so = λ z. refuses-none z }

  -- the file is accepted, and u is what is asked
  module _ {v u : Verdict} (h : v ≡ verdict a.scan) (e : v ≡ Accepted) (i : u ≡ first (ask_rows a.request a.background target map)) where
    pub ask-stops : {table : List ℕ} {r : Refusal} → u ≡ Err r → ExamineAnswered a target map table (Err r)
    unfolding call_verdict verdict
    ask-stops {r = r} k = record {
      verdict-is = then_next v (Err r) (checks a.scan) _ h e (then-stop u (ask_rows a.request a.background target map) _ _ i k);
      selects_so = λ z. refuses-none z;
    }

    module _ (k : u ≡ Accepted) where
      pub asked-right : window_bad (request_window a.request) ≡ false
      unfolding ask_rows
      asked-right = passed (ask_rows a.request a.background target map) (sym i ∙ k) 0

      -- and selected, and agreed over the selection
      pub examined : {table : List ℕ} {r : Verdict} {w : Rect} → Selects a.scan.file a.starts a.any_scene table → w ≡ request_window a.request
          → r ≡ first (agree_rows a.scan.file (chosen_in table) w a.request.pixel_type) → ExamineAnswered a target map table r
      unfolding call_verdict verdict agree_rows
      examined {table} {r} {w} s x j =
          let agreed : r ≡ first (agree_rows a.scan.file (starts_select a.scan.file a.starts a.any_scene) (request_window a.request) a.request.pixel_type) =
          rw (← x) (j ∙ ap first (rows_ext (tile_count a.scan.file) _ _ (λ k h. rw (s.as_asked k h)))) in
          record {
            verdict-is = then_next v r (checks a.scan) _ h e (then_next u r (ask_rows a.request a.background target map) _ i k agreed);
            selects_so = λ z. s;
          }

  pub call-sides : {table : List ℕ} (v : Verdict) → ExamineAnswered a target map table v → v ≡ Accepted
      → (a.request.width ≤ 65536) × (a.request.height ≤ 65536)
  call-sides v k e = sides-fit a.request (call_ok a target map (sym k.verdict-is ∙ e)).window

-- ---- an accepted call

-- a tile that meets the window, where 23 is not given
same-type : (bs : List ℕ) (w : Rect) (t e : ℕ) → meets (rectangle bs e) w ≡ true → type_bad bs w t e ≡ false → not (eqb (pixel_type bs e) t) ≡ false
unfolding type_bad
same-type bs w t e h k = rw h at k

-- painting does not ask whether S may be any
tiles-paint : (n : ℕ) (ch : Choice) (c : ℕ → Bool) → tiles_below n (paints ch.scan ch.starts ch.masks) c ≡ tiles_below n ch c
unfolding tiles_below file_tile
tiles-paint zero ch c = refl
tiles-paint (suc n) ch c = rw (tiles-paint n ch c)

module _ (a : Asked) (t m : List ℕ) {table : List ℕ} {w : Rect} (v : Verdict) (x : ExamineAnswered a (length t) (length m) table v) (y : v ≡ Accepted)
    (e : w ≡ asked_window a) where
  accepted : call_verdict a (length t) (length m) ≡ Accepted
  accepted = sym x.verdict-is ∙ y

  pub plane-room : PlaneRoom t m a.scan a.starts table a.background w a.request.pixel_type
  unfolding verdict
  plane-room =
      let ok = call_ok a (length t) (length m) accepted in
      let p = window-ok (asked_window a) ok.window in
      record {
        accepted = ok.file;
        chosen = s.table_is;
        asked = λ k h c.
            selected-layer bs a.starts a.any_scene (entry_place bs k)
            ((tiled a.scan ok.file).tile k h).filled.agreed.placed.listed.dimensions (sym (s.as_asked k h) ∙ c);
        edges = edges_fit (asked_window a) e ok.window;
        room = rw e (room a t m accepted);
        small = rw e (mul-le-mul p.low p.narrow);
        background_fits = (pixel-ok a.request.pixel_type a.background ok.pixel).1;
        typed = λ k h c. typed k (chosen_in table k) (meets (rectangle bs (entry_place bs k)) w) refl refl c (ok.agree k h) (s.as_asked k h);
      }
    where
      bs : List ℕ
      bs = a.scan.file

      s : Selects a.scan.file a.starts a.any_scene table
      s = x.selects_so y

      typed : (k : ℕ) (b c : Bool) → chosen_in table k ≡ b → meets (rectangle a.scan.file (entry_place a.scan.file k)) w ≡ c → cond b c false ≡ true
          → cond (chosen a k) (type_bad a.scan.file (asked_window a) a.request.pixel_type (entry_place a.scan.file k)) false ≡ false
          → chosen_in table k ≡ chosen a k
          → pixel_type a.scan.file (entry_place a.scan.file k) ≡ a.request.pixel_type
      typed k true true i j x y z =
          eqb-true _ _
          (not-false _ (same-type a.scan.file (asked_window a) a.request.pixel_type (entry_place a.scan.file k) (rw (← e) j) (rw (sym z ∙ i) at y)))
      typed k true false i j x y z = absurd (true≢false (sym x))
      typed k false c i j x y z = absurd (true≢false (sym x))

  -- the run that was painted is the call's
  module _ {k : Kind} (on : Bool) (o : on ≡ masks_on a.request.masks) {t' m' : List ℕ} {c : Counts}
      (d : PlaneDone k t m (paints a.scan a.starts on) table a.background w a.request.pixel_type t' m' c) where
    whole-call : ◌≡◌ {A = Painting} (record { target = t'; map = m'; stored = c.stored }) (painted k a t m)
    unfolding selected
    whole-call =
        d.painting
        ∙ rw (e, o, tiles-paint (tile_count a.scan.file) (choice_of a) (chosen_in table))
        (ap (λ l. compose k (asked_window a) (asked_bytes a) a.background l t m)
        (tiles-ext (tile_count a.scan.file) (choice_of a) (chosen_in table) (chosen a) (x.selects_so y).as_asked))

    -- the count is that of the asked window
    covered-asked : c.covered ≡ ones (area (asked_window a)) m'
    covered-asked = d.covered-is ∙ ap (λ v. ones (area v) m') e

    pub done : Answered k a t m t' m' (Ok c)
    unfolding answer target_after map_after
    done = record {
      answer_is = rw (accepted, ← whole-call) (ap (λ n. Ok (counts n c.stored)) covered-asked);
      number_is = rw accepted;
      place_is = rw accepted;
      covered-is = rw (accepted, ← whole-call) covered-asked;
      stored_is = rw (accepted, ← whole-call);
      target_is = rw (accepted, ← whole-call);
      map_is = rw (accepted, ← whole-call);
    }

-- ---- a refused call

pub refused : {k : Kind} (a : Asked) (t m : List ℕ) {table : List ℕ} {r : Refusal} (v : Verdict) → ExamineAnswered a (length t) (length m) table v → v ≡ Err r
    → Answered k a t m t m (Err r)
unfolding answer target_after map_after
refused a t m v x y =
    let z = sym x.verdict-is ∙ y in
    record { answer_is = rw z; number_is = rw z; place_is = rw z; covered-is = rw z; stored_is = rw z; target_is = rw z; map_is = rw z }
