-- The mark of a tile from the tests that the code takes, and the loop that marks and counts. Assumes nothing.
use Prim.Native.Nat.{ℕ, ◌+◌, ◌^◌, ◌≤◌, ◌<◌}
use mathlib.Core.Path.{◌≡◌, refl, ◌∙◌}
use mathlib.Core.List.{List}
use mathlib.Core.Bool.{Bool, true, false, cond, not, ◌&&◌}
use native.Mathlib.Omega.{arith}
use native.Mathlib.Numerals.{add-one}
use lib.ListN.{length, get_or, set}
use lib.Dec.{leb, ltb}
use lib.IntN.{ℤ}
use lib.Signed.{mag}
use mir.Syntax.{w32}
use mir.Val.{of_z, to_z}
use borrow.Author.Tests.{lt-ltb, le-ltb, not-true, not-false}
use Rattle.std.specs.Int.{from_bool}
use Rattle.format.specs.Bytes.{shifted}
use Rattle.format.specs.Entry.{next_entry}
use Rattle.format.specs.Directory.{tile_count, entry_place}
use Rattle.format.specs.Records.{tile_entry}
use Rattle.format.specs.Rules.{AcceptedFile}
use Rattle.format.specs.declared.Release.{Release}
use Rattle.format.specs.declared.Release.TheVariants.{R12}
use Rattle.entries.proofs.ReadBack.{read_back}
use Rattle.judge.proofs.AcceptedFile.{tiled-file}
use Rattle.judge.proofs.EntryLoop.{AtEntry, at-start, at_next}
use Rattle.plane.specs.Sums.{one, sum}
use Rattle.plane.specs.declared.Rect.{Rect}
use Rattle.plane.proofs.Tests.{ltb_next}
use Rattle.plane.proofs.SumLaws.{count-le, tab-ext, tab-set, tab-getD, length-tab}
use Rattle.selection.specs.Select.{selects}
use Rattle.subblocks.specs.Judged.{Listed}
use Rattle.tiles.specs.FileTile.{rectangle}
use Rattle.tiles.proofs.Rectangles.{read-edges}
use Rattle.question.specs.Question.{window_of}
use Rattle.counting.specs.Chosen.{Sought, seek, shares, selects_at, meets_at, mark_at, counts_below, marks_below, TilesMarked}

-- ---- the mark of the tile of the entry at e, under every release: p says whether it is selected, m whether its rectangle a shares a pixel with the window

module _ (bs : List ℕ) (starts : List ℤ) (any_scene : Bool) (w : Rect) (e : ℕ) (p : Bool) (i : p ≡ selects bs starts any_scene e) where
  pub not_selected : not p ≡ true → (rel : Release) → 0 ≡ mark_at (seek bs rel starts any_scene w) e
  unfolding mark_at meets_at selects_at
  not_selected h rel = rw (← i, not-true p h)

  module _ (h : not p ≡ false) (a : Rect) (f : a ≡ rectangle bs e) (m : Bool) (j : m ≡ shares a w) where
    pub apart : not m ≡ true → (rel : Release) → 1 ≡ mark_at (seek bs rel starts any_scene w) e
    unfolding mark_at meets_at selects_at
    apart k rel = rw (← i, not-false p h, ← f, ← j, not-true m k)

    pub sharing : not m ≡ false → (rel : Release) → 2 ≡ mark_at (seek bs rel starts any_scene w) e
    unfolding mark_at meets_at selects_at
    sharing k rel = rw (← i, not-false p h, ← f, ← j, not-false m k)

-- the edges that the code adds fit
pub edges : (bs : List ℕ) (e : ℕ) (a w : Rect) → Listed bs e → a ≡ rectangle bs e → (w.left + w.width < 2 ^ 64) × (w.top + w.height < 2 ^ 64)
    → (a.left + a.width < 2 ^ 64) × (a.top + a.height < 2 ^ 64) × (w.left + w.width < 2 ^ 64) × (w.top + w.height < 2 ^ 64)
edges bs e a w l h i = let b = read-edges bs e a l h in (omega (arith, b.right), omega (arith, b.bottom), i.0, i.1)

-- the window as the code makes it: left and top are handed on as their bits
module _ (left top : ℤ) (width height : ℕ) (l : mag left < 2 ^ 31) (t : mag top < 2 ^ 31) where
  pub window-is : (x y : ℕ) → x ≡ shifted (to_z w32 (of_z w32 left)) → y ≡ shifted (to_z w32 (of_z w32 top))
      → ◌≡◌ {A = Rect} (record { left = x; top = y; width = width; height = height }) (window_of left top width height)
  window-is x y f g = rw (f, g, read_back left l, read_back top t)

  pub window-back : {w : Rect} → w ≡ window_of (to_z w32 (of_z w32 left)) (to_z w32 (of_z w32 top)) width height → w ≡ window_of left top width height
  window-back e = e ∙ rw (read_back left l, read_back top t)

-- ---- what a mark counts for

number-is : (b : Bool) → from_bool b ≡ one b
number-is true = refl
number-is false = refl

number-few : (b : Bool) → from_bool b ≤ 1
number-few true = omega arith
number-few false = omega arith

pub marked-selected : (q : Sought) (e : ℕ) → leb 1 (mark_at q e) ≡ selects_at q e
unfolding mark_at meets_at
marked-selected q e = go (selects_at q e) (shares (rectangle q.scan.file e) q.window)
  where
    go : (p s : Bool) → leb 1 (cond (p && s) 2 (cond p 1 0)) ≡ p
    go true true = refl
    go true false = refl
    go false s = refl

marked-meeting : (q : Sought) (e : ℕ) → leb 2 (mark_at q e) ≡ meets_at q e
unfolding mark_at
marked-meeting q e = go (meets_at q e) (selects_at q e)
  where
    go : (m p : Bool) → leb 2 (cond m 2 (cond p 1 0)) ≡ m
    go true p = refl
    go false true = refl
    go false false = refl

-- ---- the loop over the entries of an accepted file: those below k are marked and counted, and the next is at e

-- there are no more than entries
few-selected : (q : Sought) (k : ℕ) → (counts_below q k).selected ≤ k
unfolding counts_below
few-selected q k = count-le k (λ i. selects_at q (tile_entry q.scan i))

few-meeting : (q : Sought) (k : ℕ) → (counts_below q k).meeting ≤ k
unfolding counts_below
few-meeting q k = count-le k (λ i. meets_at q (tile_entry q.scan i))

-- the marks and the counts of those below k
pub record MarkedBelow (q : Sought) (before after : List ℕ) (selected meeting k : ℕ) : Type 0 where
  pub marks-are : after ≡ marks_below q before k
  pub selected-is : selected ≡ (counts_below q k).selected
  pub meeting-is : meeting ≡ (counts_below q k).meeting

-- the loop over the file bs, whose marks and counts are the same under every release
pub record Marking (bs : List ℕ) (starts : List ℤ) (any_scene : Bool) (w : Rect) (before after : List ℕ) (n e selected meeting k : ℕ) : Type 0 where
  pub whole : n ≡ tile_count bs
  pub room : n ≤ length before
  pub at : AtEntry bs n e k
  pub marked : (rel : Release) → MarkedBelow (seek bs rel starts any_scene w) before after selected meeting k

-- of the file bs, the window w and the marks as they were
module _ (bs : List ℕ) (starts : List ℤ) (any_scene : Bool) (w : Rect) (before : List ℕ) where
  abbrev q : Release → Sought
  q rel = seek bs rel starts any_scene w

  pub marking-start : (n e : ℕ) → tile_count bs ≤ length before → n ≡ tile_count bs → e ≡ entry_place bs 0
      → Marking bs starts any_scene w before before n e 0 0 0
  unfolding marks_below counts_below sum
  marking-start n e r f g = record {
    whole = f;
    room = omega arith;
    at = at-start bs n e g;
    marked = λ rel. record {
      marks-are = tab-getD before ∙ tab-ext (length before) _ _ (λ k h. rw (le-ltb k 0 (omega arith)));
      selected-is = refl;
      meeting-is = refl;
    };
  }

  module _ (t : List ℕ) (n e selected meeting k : ℕ) (i : Marking bs starts any_scene w before t n e selected meeting k) where
    pub marking-all : n ≤ tile_count bs
    marking-all = omega (arith, i.whole)

    pub marking-listed : AcceptedFile bs → k < n → Listed bs e
    marking-listed a h = rw i.at.place ((tiled-file bs a).listed k (omega (arith, i.whole)))

    -- how many marks there are: by any release, here 1.2
    pub marking-size : length t ≡ length before
    unfolding marks_below
    marking-size = rw (i.marked R12).marks-are (length-tab (length before) _)

    pub marking-room : k < n → k < length t
    marking-room h = omega (arith, marking-size, i.room)

    -- the counts fit, by any release, here 1.2: v is what a test of the mark adds
    module _ (v : ℕ) (b : Bool) (f : v ≡ from_bool b) (h : k < n) where
      pub selected-most : selected + v ≤ n
      selected-most = omega (arith, number-few b, (i.marked R12).selected-is, few-selected (q R12) k)

      pub meeting-most : meeting + v ≤ n
      meeting-most = omega (arith, number-few b, (i.marked R12).meeting-is, few-meeting (q R12) k)

    pub marking-next : (v x y p : ℕ) → k < n → ((rel : Release) → v ≡ mark_at (q rel) e) → x ≡ from_bool (leb 1 v) → y ≡ from_bool (leb 2 v) → p ≡ next_entry bs e
        → Marking bs starts any_scene w before (set t k v) n p (selected + x) (meeting + y) (k + 1)
    unfolding marks_below counts_below sum
    marking-next v x y p h f fx fy g = record {
      whole = i.whole;
      room = i.room;
      at = at_next bs n e k i.at p h g;
      marked = λ rel. record {
        marks-are = rw (i.marked rel).marks-are (tab-set (length before) _ _ k v (omega (arith, i.room)) (here rel) (others rel));
        selected-is = rw (add-one, (i.marked rel).selected-is, fx, number-is (leb 1 v), f rel, marked-selected (q rel) e, i.at.place);
        meeting-is = rw (add-one, (i.marked rel).meeting-is, fy, number-is (leb 2 v), f rel, marked-meeting (q rel) e, i.at.place);
      };
    }
      where
        here : (rel : Release) → v ≡ cond (ltb k (k + 1)) (mark_at (q rel) (entry_place bs k)) (get_or before k 0)
        here rel = rw (lt-ltb k (k + 1) (omega arith), ← i.at.place) (f rel)

        others : (rel : Release) (j : ℕ) → j < length before → (j ≡ k → ⊥)
            → cond (ltb j k) (mark_at (q rel) (entry_place bs j)) (get_or before j 0) ≡ cond (ltb j (k + 1)) (mark_at (q rel) (entry_place bs j)) (get_or before j 0)
        others rel j l d = rw (ltb_next j k d)

    pub marking-end : n ≤ k → TilesMarked bs starts any_scene w before t (record { selected = selected; meeting = meeting })
    unfolding counts_below
    marking-end h = let f : k ≡ tile_count bs = omega (arith, i.whole, i.at.count) in record {
      counts_are = λ rel. rw ((i.marked rel).selected-is, (i.marked rel).meeting-is, f);
      marks-are = λ rel. rw (← f) (i.marked rel).marks-are;
    }
