-- The start of a letter that a question asks for, against the starts that a tile has; and that a selected tile has the layer that is asked for. Assumes nothing.
use Prim.Native.Nat.{ℕ, ◌+◌, ◌-◌, ◌≤◌, ◌<◌}
use mathlib.Core.Path.{◌≡◌, sym, ◌∙◌}
use mathlib.Core.List.{List}
use mathlib.Core.Bool.{Bool, true, false, cond, ◌&&◌, true≢false}
use native.Mathlib.Omega.{arith}
use lib.Dec.{eqb, leb, ltb}
use lib.IntN.{ℤ}
use borrow.Author.Tests.{lt-ltb, le-ltb, le-leb, lt-leb, eq-eqb, ne_eqb, leb-true, ltb-true, ltb-false}
use Rattle.format.specs.Bytes.{any_of, any_below, all_below, biased}
use Rattle.format.specs.Choice.{asked_start, asked_layer}
use Rattle.format.specs.Entry.{dimension_count, dimensions_bad, has_letter, letter_index, letter_place, letter, start, size}
use Rattle.format.specs.Entry.{is_pyramid, is_layered, layers_place}
use Rattle.format.proofs.Below.{by_bool, and_both, all-at}
use Rattle.entries.proofs.EntryLaws.{letter-placed, dimensions-ok, one-plane, several-planes}
use Rattle.entries.proofs.LayerLaws.{Layered, layers-ok}
use Rattle.selection.specs.Select.{tile_start, start_count, free, has_start, selects}
use Rattle.selection.specs.Layer.{HasAskedLayer}

-- ---- one letter

-- a tile has one start at least
starts-some : (bs : List ℕ) (e x : ℕ) → dimensions_bad bs e ≡ false → 1 ≤ start_count bs e x
unfolding start_count letter_place
starts-some bs e x h =
    by_bool (any_below (dimension_count bs e) (has_letter bs e x))
    (λ l. rw l ((dimensions-ok bs e h).each (letter_index bs e x) (letter-placed bs e x l).index).size-some)
    (λ l. rw l (omega arith))

-- the tile's start a and the asked one q, as they were read of a letter that selects, as r said
module _ (bs : List ℕ) (e : ℕ) (starts : List ℤ) (any_scene : Bool) (x : ℕ) (r : Bool) (f : r ≡ free any_scene x) (g : r ≡ false)
    (a q : ℕ) (i : a ≡ tile_start bs e x) (j : q ≡ asked_start starts x) where
  -- the asked start is one of the tile's
  among : (b : Bool) → b ≡ (leb a q && ltb q (a + start_count bs e x)) → b ≡ has_start bs e starts any_scene x
  unfolding has_start
  among b h = rw (sym f ∙ g, ← i, ← j) h

  pub start-same : dimensions_bad bs e ≡ false → a ≡ q → eqb a q ≡ has_start bs e starts any_scene x
  start-same h k =
      let some = starts-some bs e x h in
      among _ (rw (eq-eqb a q k, le-leb a q (omega arith), lt-ltb q (a + start_count bs e x) (omega arith)))

  pub start-before : (a ≡ q → ⊥) → q ≤ a → ltb a q ≡ has_start bs e starts any_scene x
  start-before h k = among _ (rw (le-ltb a q k, lt-leb a q (omega arith)))

  -- n starts of the tile's are there
  pub start-later : a < q → (n : ℕ) → n ≡ start_count bs e x → ltb (q - a) n ≡ has_start bs e starts any_scene x
  start-later k n c =
      among _
      (rw (← c, le-leb a q (omega arith))
      (by_bool (ltb (q - a) n)
      (λ t. rw (t, lt-ltb q (a + n) (omega (arith, ltb-true (q - a) n t))))
      (λ t. rw (t, le-ltb q (a + n) (omega (arith, ltb-false (q - a) n t))))))

-- a letter that selects, in which the tile has the asked start
pub has-start : (bs : List ℕ) (e : ℕ) (starts : List ℤ) (any_scene : Bool) (x : ℕ) → free any_scene x ≡ false → has_start bs e starts any_scene x ≡ true
    → (tile_start bs e x ≤ asked_start starts x) × (asked_start starts x < tile_start bs e x + start_count bs e x)
unfolding has_start
has-start bs e starts any_scene x f h =
    let both = and_both (leb (tile_start bs e x) (asked_start starts x)) _ (rw f at h) in
    (leb-true _ _ both.0, ltb-true _ _ both.1)

-- ---- the letter of the layers

-- a letter that is not X, Y, M or S selects
selecting : (any_scene : Bool) (x : ℕ) → (x ≡ 88 → ⊥) → (x ≡ 89 → ⊥) → (x ≡ 77 → ⊥) → (x ≡ 83 → ⊥) → free any_scene x ≡ false
unfolding free any_of
selecting true x a b c d = rw (ne_eqb x 88 a, ne_eqb x 89 b, ne_eqb x 77 c, ne_eqb x 83 d)
selecting false x a b c d = rw (ne_eqb x 88 a, ne_eqb x 89 b, ne_eqb x 77 c)

-- its starts are those of its dimension
layer-start : (bs : List ℕ) (e : ℕ) → Layered bs e → tile_start bs e (letter bs (layers_place bs e)) ≡ biased (start bs (layers_place bs e))
unfolding tile_start
layer-start bs e l = rw (l.has, l.place_is)

layer-starts : (bs : List ℕ) (e : ℕ) → Layered bs e → start_count bs e (letter bs (layers_place bs e)) ≡ size bs (layers_place bs e)
unfolding start_count
layer-starts bs e l = rw (l.has, l.place_is)

pub asked-none : (bs : List ℕ) (e : ℕ) (starts : List ℤ) → is_layered bs e ≡ false → asked_layer bs e starts ≡ 0
unfolding asked_layer
asked-none bs e starts h = rw h

pub asked-some : (bs : List ℕ) (e : ℕ) (starts : List ℤ) → is_layered bs e ≡ true
    → asked_layer bs e starts ≡ asked_start starts (letter bs (layers_place bs e)) - biased (start bs (layers_place bs e))
unfolding asked_layer
asked-some bs e starts h = rw h

-- the letter x of a selected tile, from A to Z
pub selected-start : (bs : List ℕ) (starts : List ℤ) (any_scene : Bool) (e x : ℕ) → selects bs starts any_scene e ≡ true → 65 ≤ x → x ≤ 90
    → has_start bs e starts any_scene x ≡ true
unfolding selects
selected-start bs starts any_scene e x h a z = go (is_pyramid bs e) h
  where
    here : 65 + (x - 65) ≡ x
    here = omega arith

    go : (b : Bool) → cond b false (all_below 26 (λ i. has_start bs e starts any_scene (65 + i))) ≡ true → has_start bs e starts any_scene x ≡ true
    go true h = absurd (true≢false (sym h))
    go false h = rw here at (all-at 26 (x - 65) (λ i. has_start bs e starts any_scene (65 + i)) h (omega arith))

-- what is selected is no pyramid tile
pub selected-whole : (bs : List ℕ) (starts : List ℤ) (any_scene : Bool) (e : ℕ) → selects bs starts any_scene e ≡ true → is_pyramid bs e ≡ false
unfolding selects
selected-whole bs starts any_scene e h = by_bool (is_pyramid bs e) (λ p. absurd (true≢false (sym h ∙ rw p))) (λ p. p)

-- and has the layer that is asked for
pub selected-layer : (bs : List ℕ) (starts : List ℤ) (any_scene : Bool) (e : ℕ) → dimensions_bad bs e ≡ false → selects bs starts any_scene e ≡ true
    → HasAskedLayer bs e starts
selected-layer bs starts any_scene e h s =
    by_bool (is_layered bs e)
    (λ l.
    let right = layers-ok bs e h l in
    let x = letter bs (layers_place bs e) in
    let range =
    has-start bs e starts any_scene x (selecting any_scene x right.no-x right.no-y right.no-m right.no-s)
    (selected-start bs starts any_scene e x s right.sized.from-A right.sized.to-Z) in
    let from = rw (layer-start bs e right) at range.0 in
    let below = rw (layer-start bs e right, layer-starts bs e right) at range.1 in
    record { from = λ _. from; below = rw (asked-some bs e starts l, several-planes bs e l) (omega (arith, from, below)) })
    (λ l. record { from = λ t. absurd (true≢false (sym t ∙ l)); below = rw (asked-none bs e starts l, one-plane bs e l) (omega arith) })

-- ---- as they were read: r says whether the entry has layers, whose dimension was found at d, x its letter

module _ (bs : List ℕ) (e d : ℕ) (r : Bool) (h : dimensions_bad bs e ≡ false) (j : r ≡ is_layered bs e) (t : r ≡ true) (i : d ≡ layers_place bs e) where
  layer-right : Layered bs e
  layer-right = layers-ok bs e h (sym j ∙ t)

  -- it is one of A to Z
  pub layer-from : (x : ℕ) → x ≡ letter bs d → 65 ≤ x
  layer-from x k = rw (k, i) layer-right.sized.from-A

  pub layer-to : (x : ℕ) → x ≡ letter bs d → x ≤ 90
  layer-to x k = rw (k, i) layer-right.sized.to-Z

  -- its start a and the asked one q
  module _ (x a q : ℕ) (starts : List ℤ) (k : x ≡ letter bs d) (l : a ≡ biased (start bs d)) (m : q ≡ asked_start starts x) where
    pub layer-after : HasAskedLayer bs e starts → a ≤ q
    layer-after w = rw (m, k, l, i) (w.from (sym j ∙ t))

    pub layer-is : q - a ≡ asked_layer bs e starts
    layer-is = rw (m, k, l, i) (sym (asked-some bs e starts (sym j ∙ t)))
