-- What follows for an entry that is not refused: its mark and number of dimensions, its X and Y, and the bounds of a dimension. Assumes nothing.
use Prim.Native.Nat.{ℕ, suc, ◌+◌, ◌-◌, ◌^◌, ◌≤◌, ◌<◌}
use mathlib.Core.Path.{◌≡◌, refl, sym, ◌∙◌}
use mathlib.Core.List.{List}
use mathlib.Core.Bool.{Bool, true, false, cond, true≢false}
use native.Mathlib.Omega.{arith}
use lib.ListN.{length}
use lib.Dec.{eqb, ltb}
use lib.IntN.{pos, negsuc, ◌+ℤ◌, ◌-ℤ◌}
use lib.Signed.{mag}
use borrow.Author.Tests.{lt-ltb, le-ltb, eq-eqb, ne_eqb, ltb-true, ltb-false, leb-false, eqb-true, eqb-false, not-false}
use Rattle.format.specs.Bytes.{same_at, any_below, least_below, signed32, biased}
use Rattle.format.specs.Names.{mark_tile}
use Rattle.format.specs.Entry.{dimension_count, letter, start, size, stored, stored_field, dimension_place, next_entry, has_letter, letter_index, letter_place}
use Rattle.format.specs.Entry.{head_bad, letter_bad, too_far, is_plane, most_size, plane_size_bad, other_size_bad, size_bad, dimension_bad, repeats, closes_plane}
use Rattle.format.specs.Entry.{dimensions_bad, pixel_bytes}
use Rattle.format.specs.Entry.{has_layers, is_layered, layers_index, layers_place, layer_count}
use Rattle.format.proofs.Below.{by_bool, none, any_found, any_none, least-is, least-none}

-- ---- the fixed part

pub record Headed (bs : List ℕ) (e : ℕ) : Type 0 where
  pub mark : same_at bs e mark_tile ≡ true
  pub some : 1 ≤ dimension_count bs e
  pub few : dimension_count bs e ≤ 16

pub head_ok : (bs : List ℕ) (e : ℕ) → head_bad bs e ≡ false → Headed bs e
unfolding head_bad
head_ok bs e h =
    let zero = eqb-false (dimension_count bs e) 0 (none _ h 1) in
    record { mark = not-false _ (none _ h 0); some = omega (arith, zero); few = ltb-false 16 (dimension_count bs e) (none _ h 2) }

-- ---- a dimension by itself

pub record Sized (bs : List ℕ) (d : ℕ) : Type 0 where
  pub from-A : 65 ≤ letter bs d
  pub to-Z : letter bs d ≤ 90
  pub size-some : 1 ≤ size bs d
  pub size_fits : size bs d < 2 ^ 31
  pub stored_some : 1 ≤ stored bs d
  pub stored-fits : stored bs d < 2 ^ 31
  -- Start + Size is at most 2 ^ 31 - 1
  pub end : biased (start bs d) + size bs d < 2 ^ 32

most-few : (x : ℕ) → most_size x ≤ 1024
unfolding most_size
most-few x = go (eqb x 77) (eqb x 83)
  where
    go : (a b : Bool) → cond a 1 (cond b 1 1024) ≤ 1024
    go true b = omega arith
    go false true = omega arith
    go false false = omega arith

-- a Size that is not refused is at least 1 and not negative
size_ok : (bs : List ℕ) (d : ℕ) → size_bad bs d ≡ false → (1 ≤ size bs d) × (size bs d < 2 ^ 31)
unfolding size_bad plane_size_bad other_size_bad
size_ok bs d h = go (is_plane (letter bs d)) h
  where
    go : (t : Bool) → cond t (plane_size_bad bs d) (other_size_bad bs d) ≡ false → (1 ≤ size bs d) × (size bs d < 2 ^ 31)
    go true h =
        let zero = eqb-false (size bs d) 0 (none _ h 0) in
        let high = leb-false (2 ^ 31) (size bs d) (none _ h 1) in
        (omega (arith, zero), omega (arith, high))
    go false h =
        let zero = eqb-false (size bs d) 0 (none _ h 0) in
        let high = ltb-false (most_size (letter bs d)) (size bs d) (none _ h 1) in
        (omega (arith, zero), omega (arith, high, most-few (letter bs d)))

-- where it is not X or Y: at most as many layers as its letter may have, and stored so
pub other-ok : (bs : List ℕ) (d : ℕ) → dimension_bad bs d ≡ false → is_plane (letter bs d) ≡ false
    → (size bs d ≤ most_size (letter bs d)) × (stored bs d ≡ size bs d)
unfolding dimension_bad size_bad other_size_bad
other-ok bs d h p =
    let o : other_size_bad bs d ≡ false = rw p at (none _ h 3) in
    (ltb-false (most_size (letter bs d)) (size bs d) (none _ o 1), eqb-true _ _ (not-false _ (none _ o 2)))

-- a stored size is Size or a StoredSize that is not 0
stored_ok : (bs : List ℕ) (d : ℕ) → 1 ≤ size bs d → size bs d < 2 ^ 31 → stored_field bs d < 2 ^ 31 → (1 ≤ stored bs d) × (stored bs d < 2 ^ 31)
unfolding stored
stored_ok bs d some fits field = go (eqb (stored_field bs d) 0) refl
  where
    go : (t : Bool) → eqb (stored_field bs d) 0 ≡ t → (1 ≤ cond t (size bs d) (stored_field bs d)) × (cond t (size bs d) (stored_field bs d) < 2 ^ 31)
    go true e = (some, fits)
    go false e = let zero = eqb-false (stored_field bs d) 0 e in (omega (arith, zero), field)

-- 2 ^ 31 is added to a number that is not negative
biased-plus : (z : ℕ) → z < 2 ^ 31 → biased z ≡ z + 2 ^ 31
unfolding biased
biased-plus z h = omega arith

end-ok : (bs : List ℕ) (d : ℕ) → size bs d < 2 ^ 31 → too_far bs d ≡ false → biased (start bs d) + size bs d < 2 ^ 32
unfolding too_far
end-ok bs d fits h = sum (biased (start bs d)) (size bs d) fits (ltb-false 6442450943 (biased (start bs d) + biased (size bs d)) h)
  where
    sum : (a z : ℕ) → z < 2 ^ 31 → a + biased z ≤ 6442450943 → a + z < 2 ^ 32
    sum a z fits h = omega (arith, biased-plus z fits)

pub dimension-ok : (bs : List ℕ) (d : ℕ) → dimension_bad bs d ≡ false → Sized bs d
unfolding dimension_bad letter_bad
dimension-ok bs d h =
    let letters = none _ h 0 in
    let sizes = size_ok bs d (none _ h 3) in
    let field = leb-false (2 ^ 31) (stored_field bs d) (none _ h 2) in
    let storeds = stored_ok bs d sizes.0 sizes.1 field in
    record {
      from-A = ltb-false (letter bs d) 65 (none _ letters 0);
      to-Z = ltb-false 90 (letter bs d) (none _ letters 1);
      size-some = sizes.0;
      size_fits = sizes.1;
      stored_some = storeds.0;
      stored-fits = storeds.1;
      end = end-ok bs d sizes.1 (none _ h 1);
    }

-- the end of such a dimension as a signed number: an i32 holds it
pub end-signed : (x z : ℕ) → x < 2 ^ 32 → biased x + z < 2 ^ 32 → mag (signed32 x +ℤ pos z) < 2 ^ 31
unfolding biased signed32
end-signed x z fits h = go (ltb x (2 ^ 31)) refl
  where
    sum : (b : Bool) → ltb z (suc (2 ^ 32 - suc x)) ≡ b → 2 ^ 31 ≤ x
        → mag (cond b (negsuc (suc (2 ^ 32 - suc x) - suc z)) (pos (z - suc (2 ^ 32 - suc x)))) < 2 ^ 31
    sum true e l = omega arith
    sum false e l = omega (arith, ltb-false z (suc (2 ^ 32 - suc x)) e)

    go : (b : Bool) → ltb x (2 ^ 31) ≡ b → mag (cond b (pos x) (pos x -ℤ pos (2 ^ 32)) +ℤ pos z) < 2 ^ 31
    go true e = omega (arith, ltb-true x (2 ^ 31) e)
    go false e = rw (lt-ltb x (2 ^ 32) fits) (sum (ltb z (suc (2 ^ 32 - suc x))) refl (ltb-false x (2 ^ 31) e))

-- a sum of biased numbers: x of Start, y of Size, which is b
module _ (bs : List ℕ) (d b x y : ℕ) (k : x ≡ biased (start bs d)) (j : b ≡ size bs d) (l : y ≡ biased b) where
  pub far : 6442450943 < x + y → true ≡ too_far bs d
  unfolding too_far
  far h = rw (← j, ← k, ← l) (sym (lt-ltb 6442450943 (x + y) h))

  pub near : x + y ≤ 6442450943 → false ≡ too_far bs d
  unfolding too_far
  near h = rw (← j, ← k, ← l) (sym (le-ltb 6442450943 (x + y) h))

-- ---- the place of a dimension

pub dimension-within : (bs : List ℕ) (e k : ℕ) → k < dimension_count bs e → dimension_place e k + 20 ≤ next_entry bs e
unfolding next_entry
dimension-within bs e k h = omega arith

-- the answer r for the dimension at d, which is dimension k
pub bad-at : (bs : List ℕ) (e k d : ℕ) (r : Bool) → d ≡ dimension_place e k → r ≡ dimension_bad bs d → r ≡ dimension_bad bs (dimension_place e k)
bad-at bs e k d r i j = rw (← i) j

-- ---- the dimension of a letter

-- the least number below n of which a test holds is at most n, which it is where there is none
least-within : (n : ℕ) (t : ℕ → Bool) → least_below n t ≤ n
least-within n t = by_bool (any_below n t) (λ h. let l = least-is n t h in omega (arith, l.below)) (λ h. omega (arith, least-none n t h))

-- it lies in the entry, or behind it where the entry lacks the letter
pub index-within : (bs : List ℕ) (e x : ℕ) → letter_index bs e x ≤ dimension_count bs e
unfolding letter_index
index-within bs e x = least-within (dimension_count bs e) (has_letter bs e x)

-- of a letter that the entry has
pub record Placed (bs : List ℕ) (e x : ℕ) : Type 0 where
  pub index : letter_index bs e x < dimension_count bs e
  pub within : letter_place bs e x + 20 ≤ next_entry bs e
  pub letter-is : letter bs (letter_place bs e x) ≡ x

pub letter-placed : (bs : List ℕ) (e x : ℕ) → any_below (dimension_count bs e) (has_letter bs e x) ≡ true → Placed bs e x
unfolding letter_index letter_place has_letter
letter-placed bs e x h =
    let l = least-is (dimension_count bs e) (has_letter bs e x) h in
    record { index = l.below; within = dimension-within bs e _ l.below; letter-is = eqb-true _ x l.holds }

-- r says whether the entry has the letter x, whose dimension was found at d
pub letter-in : (bs : List ℕ) (e x d : ℕ) (r : Bool) → next_entry bs e ≤ length bs → r ≡ any_below (dimension_count bs e) (has_letter bs e x) → r ≡ true
    → d ≡ letter_place bs e x → d + 20 ≤ length bs
letter-in bs e x d r n j h i = omega (arith, (letter-placed bs e x (sym j ∙ h)).within)

-- ---- the dimension with layers

pub layers-index-within : (bs : List ℕ) (e : ℕ) → layers_index bs e ≤ dimension_count bs e
unfolding layers_index
layers-index-within bs e = least-within (dimension_count bs e) (has_layers bs e)

-- what has layers is not X or Y, and of Size 2 or more
layers-at : (bs : List ℕ) (e k : ℕ) → has_layers bs e k ≡ true → (is_plane (letter bs (dimension_place e k)) ≡ false) × (1 < size bs (dimension_place e k))
unfolding has_layers
layers-at bs e k h = go (is_plane (letter bs (dimension_place e k))) refl h
  where
    go : (t : Bool) → is_plane (letter bs (dimension_place e k)) ≡ t → cond t false (ltb 1 (size bs (dimension_place e k))) ≡ true
        → (is_plane (letter bs (dimension_place e k)) ≡ false) × (1 < size bs (dimension_place e k))
    go true p h = absurd (true≢false (sym h))
    go false p h = (p, ltb-true 1 _ h)

-- of an entry that has such a dimension
pub record Stacked (bs : List ℕ) (e : ℕ) : Type 0 where
  pub index : layers_index bs e < dimension_count bs e
  pub within : layers_place bs e + 20 ≤ next_entry bs e
  pub has : has_layers bs e (layers_index bs e) ≡ true
  pub other : is_plane (letter bs (layers_place bs e)) ≡ false
  pub several : 1 < size bs (layers_place bs e)

pub layers-placed : (bs : List ℕ) (e : ℕ) → is_layered bs e ≡ true → Stacked bs e
unfolding is_layered layers_index layers_place
layers-placed bs e h =
    let l = least-is (dimension_count bs e) (has_layers bs e) h in
    let a = layers-at bs e _ l.holds in
    record { index = l.below; within = dimension-within bs e _ l.below; has = l.holds; other = a.0; several = a.1 }

-- r says whether the entry has layers, whose dimension was found at d
pub layers-in : (bs : List ℕ) (e d : ℕ) (r : Bool) → next_entry bs e ≤ length bs → r ≡ is_layered bs e → r ≡ true → d ≡ layers_place bs e → d + 20 ≤ length bs
layers-in bs e d r n j h i = omega (arith, (layers-placed bs e (sym j ∙ h)).within)

-- how many planes there are: one where there are no layers
pub one-plane : (bs : List ℕ) (e : ℕ) → is_layered bs e ≡ false → layer_count bs e ≡ 1
unfolding layer_count
one-plane bs e h = rw h

pub several-planes : (bs : List ℕ) (e : ℕ) → is_layered bs e ≡ true → layer_count bs e ≡ size bs (layers_place bs e)
unfolding layer_count
several-planes bs e h = rw h

-- the stored size a and Size b of the dimension of the letter l, which were read at d
module _ (bs : List ℕ) (e l d a b : ℕ) (i : d ≡ letter_place bs e l) (j : a ≡ stored bs d) (k : b ≡ size bs d) where
  pub size-other : (a ≡ b → ⊥) → eqb (stored bs (letter_place bs e l)) (size bs (letter_place bs e l)) ≡ false
  size-other h = rw (← i, ← j, ← k) (ne_eqb a b h)

  pub size_same : a ≡ b → eqb (stored bs (letter_place bs e l)) (size bs (letter_place bs e l)) ≡ true
  size_same h = rw (← i, ← j, ← k) (eq-eqb a b h)

-- ---- the dimensions of an entry

pub record Planed (bs : List ℕ) (e : ℕ) : Type 0 where
  pub each : (k : ℕ) → k < dimension_count bs e → Sized bs (dimension_place e k)
  pub once : (j k : ℕ) → j < dimension_count bs e → k < j → letter bs (dimension_place e k) ≡ letter bs (dimension_place e j) → ⊥
  pub x : Placed bs e 88
  pub y : Placed bs e 89
  pub x-sized : Sized bs (letter_place bs e 88)
  pub y-sized : Sized bs (letter_place bs e 89)

abbrev Has : List ℕ → ℕ → ℕ → Type 0
Has bs e x = any_below (dimension_count bs e) (has_letter bs e x) ≡ true

-- Y stands, and X before it
both : (bs : List ℕ) (e : ℕ) → any_below (dimension_count bs e) (closes_plane bs e) ≡ true → Has bs e 88 × Has bs e 89
unfolding closes_plane
both bs e h =
    let l = least-is (dimension_count bs e) (closes_plane bs e) h in
    let j = least_below (dimension_count bs e) (closes_plane bs e) in
    go j l.below (has_letter bs e 89 j) refl l.holds
  where
    go : (j : ℕ) → j < dimension_count bs e → (t : Bool) → has_letter bs e 89 j ≡ t → cond t (any_below j (has_letter bs e 88)) false ≡ true
        → Has bs e 88 × Has bs e 89
    go j b true y h =
        let m = least-is j (has_letter bs e 88) h in
        (any_found _ _ _ (omega (arith, m.below)) m.holds, any_found _ j _ b y)
    go j b false y h = absurd (true≢false (sym h))

-- no letter stands before dimension j that it has itself
apart : (bs : List ℕ) (e j k : ℕ) → repeats bs e j ≡ false → k < j → letter bs (dimension_place e k) ≡ letter bs (dimension_place e j) → ⊥
unfolding repeats has_letter
apart bs e j k h b = eqb-false _ _ (any_none j k (has_letter bs e (letter bs (dimension_place e j))) h b)

pub dimensions-ok : (bs : List ℕ) (e : ℕ) → dimensions_bad bs e ≡ false → Planed bs e
unfolding dimensions_bad letter_place
dimensions-ok bs e h =
    let plane = both bs e (not-false _ (none _ h 2)) in
    let px = letter-placed bs e 88 plane.0 in
    let py = letter-placed bs e 89 plane.1 in
    record {
      each = λ k l. sized k l;
      once = λ j k l b f. differ j k l b f;
      x = px;
      y = py;
      x-sized = sized (letter_index bs e 88) px.index;
      y-sized = sized (letter_index bs e 89) py.index;
    }
  where
    sized : (k : ℕ) → k < dimension_count bs e → Sized bs (dimension_place e k)
    sized k l = dimension-ok bs (dimension_place e k) (any_none (dimension_count bs e) k (λ j. dimension_bad bs (dimension_place e j)) (none _ h 0) l)

    differ : (j k : ℕ) → j < dimension_count bs e → k < j → letter bs (dimension_place e k) ≡ letter bs (dimension_place e j) → ⊥
    differ j k l b f = apart bs e j k (any_none (dimension_count bs e) j (repeats bs e) (none _ h 1) l) b f

-- X and Y, whose dimensions were found at d, lie in the file where the entry does
module _ (bs : List ℕ) (e d : ℕ) (n : next_entry bs e ≤ length bs) (h : dimensions_bad bs e ≡ false) where
  pub x-in : d ≡ letter_place bs e 88 → d + 20 ≤ length bs
  x-in i = omega (arith, (dimensions-ok bs e h).x.within)

  pub y-in : d ≡ letter_place bs e 89 → d + 20 ≤ length bs
  y-in i = omega (arith, (dimensions-ok bs e h).y.within)

-- ---- pixel types

pub pixel-bytes-few : (t : ℕ) → pixel_bytes t ≤ 24
unfolding pixel_bytes
pixel-bytes-few t =
    up (eqb t 0) 1 _ (omega arith)
    (up (eqb t 1) 2 _ (omega arith)
    (up (eqb t 2) 4 _ (omega arith)
    (up (eqb t 3) 3 _ (omega arith)
    (up (eqb t 4) 6 _ (omega arith)
    (up (eqb t 8) 12 _ (omega arith)
    (up (eqb t 9) 4 _ (omega arith)
    (up (eqb t 10) 8 _ (omega arith)
    (up (eqb t 11) 24 0 (omega arith) (omega arith)))))))))
  where
    up : (b : Bool) (m r : ℕ) → m ≤ 24 → r ≤ 24 → cond b m r ≤ 24
    up true m r h k = h
    up false m r h k = k
