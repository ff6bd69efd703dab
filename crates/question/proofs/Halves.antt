-- The two halves of a cut window as questions of their own: they are accepted, and differ from the whole in the window alone. Assumes nothing.
use Prim.Native.Nat.{ℕ}
use mathlib.Core.Path.{◌≡◌, refl, sym, ap, ap₂, ◌∙◌, subst, subst₂}
use mathlib.Core.List.{List}
use native.Mathlib.Omega.{arith}
use lib.ListN.{length}
use Rattle.format.specs.Entry.{pixel_bytes}
use Rattle.format.specs.Directory.{entry_place}
use Rattle.format.specs.Checks.{Accepted}
use Rattle.plane.specs.Paint.{ones}
use Rattle.plane.specs.Tiles.{Tile, area}
use Rattle.plane.specs.Turns.{Painting, Kind, compose}
use Rattle.plane.specs.Demand2.{Room}
use Rattle.plane.specs.Cuts.{Line, column, row, Cuts, fore, rear, Proper, Meets}
use Rattle.plane.specs.declared.Rect.{Rect}
use Rattle.question.specs.Question.{request_window}
use Rattle.question.specs.Call.{Asked, chosen, call_verdict, asked_window, asked_bytes, selected, painted, answer, covered_in}
use Rattle.question.specs.Demand3.{Int32, fore_request, rear_request, RoomFor, after}
use Rattle.question.specs.declared.WindowRequest.{WindowRequest}
use Rattle.question.proofs.Shifts.{shifted-more, int32-more}
use Rattle.question.proofs.Asking.{window-accepted, lent-accepted}
use Rattle.question.proofs.Agreeing.{type-less}
use Rattle.question.proofs.Accepts.{Accepts, call-accepted}
use Rattle.question.proofs.Calls.{room, after_is, covered-is}

-- ---- a question that differs from another in its request alone, and that in the window alone, which is w

abbrev pub framed : Asked → WindowRequest → Asked
framed a f = record { scan = a.scan; starts = a.starts; any_scene = a.any_scene; request = f; background = a.background }

pub record Half (a : Asked) (w : Rect) (f : WindowRequest) : Type 0 where
  pub window : request_window f ≡ w
  pub type : f.pixel_type ≡ a.request.pixel_type
  pub masks : f.masks ≡ a.request.masks

pub fore-half : (l : Line) (a : Asked) → Half a (fore l (asked_window a)) (fore_request l a.request)
fore-half (column c) a = record { window = refl; type = refl; masks = refl }
fore-half (row c) a = record { window = refl; type = refl; masks = refl }

same-window : {x x' y y' d h : ℕ} → x ≡ x' → y ≡ y'
    → ◌≡◌ {A = Rect} (record { left = x; top = y; width = d; height = h }) (record { left = x'; top = y'; width = d; height = h })
same-window p q = cc

pub rear-half : (l : Line) (a : Asked) → Int32 a.request.left → Int32 a.request.top → Half a (rear l (asked_window a)) (rear_request l a.request)
rear-half (column c) a x y = record { window = same-window (omega (arith, shifted-more a.request.left c x)) refl; type = refl; masks = refl }
rear-half (row c) a x y = record { window = same-window refl (omega (arith, shifted-more a.request.top c y)); type = refl; masks = refl }

-- its left and top are numbers of 32 bits again, so that it can be asked
pub rear-int32 : (l : Line) (a : Asked) → Int32 a.request.left → Int32 a.request.top → Proper (asked_window a) → Cuts l (asked_window a)
    → Int32 (rear_request l a.request).left × Int32 (rear_request l a.request).top
rear-int32 (column c) a x y p h = (int32-more a.request.left c x (omega (arith, p.right)), y)
rear-int32 (row c) a x y p h = (x, int32-more a.request.top c y (omega (arith, p.bottom)))

module _ (a : Asked) (w : Rect) (f : WindowRequest) (h : Half a w f) where
  -- the same tiles are selected, of as many bytes a pixel
  half-selected : selected (framed a f) ≡ selected a
  unfolding selected
  half-selected = rw h.masks

  half-painted : (k : Kind) (t m : List ℕ) → painted k (framed a f) t m ≡ compose k w (asked_bytes a) a.background (selected a) t m
  half-painted k t m = same h.window (ap pixel_bytes h.type) half-selected
    where
      same : {w w' : Rect} {b b' : ℕ} {ts ts' : List Tile} → w ≡ w' → b ≡ b' → ts ≡ ts'
          → compose k w b a.background ts t m ≡ compose k w' b' a.background ts' t m
      same p q r = cc

  -- ---- it is accepted where the whole is: w is no improper window, meets no tile that the whole does not, and there is room

  module _ (x y : ℕ) (o : Accepts a x y) (p : Proper w) (less : (r : Rect) → Meets r w → Meets r (asked_window a)) where
    half-accepts : (t m : List ℕ) → RoomFor (framed a f) t m → Accepts (framed a f) (length t) (length m)
    half-accepts t m r = record {
      file = o.file;
      window = window-accepted (request_window f) (subst (λ (v : Rect). Proper v) (sym h.window) p);
      pixel = rw h.type o.pixel;
      lent = lent-accepted (request_window f) f.pixel_type (length t) (length m) r.target r.map;
      agree = λ k l.
          rw h.type
          (type-less a.scan.file (asked_window a) (request_window f) a.request.pixel_type (entry_place a.scan.file k)
          (λ q i. less q (subst (λ (v : Rect). Meets q v) h.window i))
          (chosen a k)
          (o.agree k l));
    }

    pub half-accepted : (t m : List ℕ) → RoomFor (framed a f) t m → call_verdict (framed a f) (length t) (length m) ≡ Accepted
    half-accepted t m r = call-accepted (framed a f) (length t) (length m) (half-accepts t m r)

  -- ---- and then what it answers and leaves is the run over w

  module _ (t m : List ℕ) (e : call_verdict (framed a f) (length t) (length m) ≡ Accepted) where
    pub half_room : Room w (asked_bytes a) t m
    half_room = subst₂ (λ (v : Rect) (b : ℕ). Room v b t m) h.window (ap pixel_bytes h.type) (room (framed a f) t m e)

    pub half-after : (k : Kind) → after k (framed a f) t m ≡ compose k w (asked_bytes a) a.background (selected a) t m
    half-after k = after_is (framed a f) t m e k ∙ half-painted k t m

    pub half-covered : (k : Kind) → covered_in (answer k (framed a f) t m) ≡ ones (area w) (compose k w (asked_bytes a) a.background (selected a) t m).map
    half-covered k = covered-is (framed a f) t m e k ∙ ap₂ (λ (v : Rect) (s : Painting). ones (area v) s.map) h.window (half-painted k t m)
