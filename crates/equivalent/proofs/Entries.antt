-- Two entries that are the same but for the position and spare bytes: all that is read of them agrees, and of their dimensions. Assumes nothing.
use Prim.Native.Nat.{ℕ, ◌+◌, ◌-◌, ◌*◌, ◌<◌, ◌^◌}
use mathlib.Core.Path.{◌≡◌, ap, ◌∙◌}
use mathlib.Core.List.{List}
use mathlib.Core.Bool.{Bool, false, cond}
use native.Mathlib.Omega.{arith}
use lib.IntN.{ℤ}
use Rattle.std.specs.Prelude.{Some, None}
use Rattle.format.specs.Bytes.{u32_at, same_at, any_below, least_below, biased, signed32}
use Rattle.format.specs.Names.{mark_tile}
use Rattle.format.specs.Entry.{pixel_type, entry_part, compression, pyramid_byte, dimension_count, head_bad}
use Rattle.format.specs.Entry.{letter, start, size, coordinate_bits, stored_field, stored, letter_bad, too_far, plane_size_bad, other_size_bad, size_bad, dimension_bad}
use Rattle.format.specs.Entry.{dimension_place, has_letter, repeats, closes_plane, dimensions_bad, letter_index, letter_place, is_pyramid}
use Rattle.format.specs.Entry.{has_layers, layers_bad, is_layered, layers_index, layers_place, layer_count}
use Rattle.format.specs.Choice.{asked_start, asked_layer}
use Rattle.format.specs.SubBlock.{layer_size, pixels_size}
use Rattle.format.specs.Records.{extent_at, m_index_of, layers_at, layers_of, dimension_at}
use Rattle.format.proofs.Below.{by_bool, any-alike, all_alike, least-is, least-alike}
use Rattle.entries.proofs.EntryLaws.{dimensions-ok}
use Rattle.selection.specs.Select.{tile_start, start_count, has_start, selects}
use Rattle.tiles.specs.FileTile.{rank_of, rectangle}
use Rattle.equivalent.specs.Same.{Same, SameEntry}
use Rattle.equivalent.proofs.Reading.{same_byte, same-inside, same-u32, u32-inside, name-front}

-- ---- a dimension: 20 bytes, at d of ds and at c of bs

module _ (ds : List ℕ) (d : ℕ) (bs : List ℕ) (c : ℕ) (s : Same 20 ds d bs c) where
  pub letter-same : letter ds d ≡ letter bs c
  unfolding letter
  letter-same = u32-inside 20 ds d bs c s 0 d c (omega arith) (omega arith) (omega arith)

  pub start-same : start ds d ≡ start bs c
  unfolding start
  start-same = same-u32 20 ds d bs c s 4 (omega arith)

  pub size_same : size ds d ≡ size bs c
  unfolding size
  size_same = same-u32 20 ds d bs c s 8 (omega arith)

  pub coordinate-same : coordinate_bits ds d ≡ coordinate_bits bs c
  unfolding coordinate_bits
  coordinate-same = same-u32 20 ds d bs c s 12 (omega arith)

  pub stored-field-same : stored_field ds d ≡ stored_field bs c
  unfolding stored_field
  stored-field-same = same-u32 20 ds d bs c s 16 (omega arith)

  pub stored_same : stored ds d ≡ stored bs c
  unfolding stored
  stored_same = rw (stored-field-same, size_same)

  pub bad-same : dimension_bad ds d ≡ dimension_bad bs c
  unfolding dimension_bad letter_bad too_far size_bad plane_size_bad other_size_bad
  bad-same = rw (letter-same, start-same, size_same, stored-field-same, stored_same)

  pub dimension-same : dimension_at ds d ≡ dimension_at bs c
  unfolding dimension_at
  dimension-same = rw (letter-same, start-same, size_same, coordinate-same, stored_same)

  pub extent-same : extent_at ds d ≡ extent_at bs c
  unfolding extent_at
  extent-same = rw (start-same, size_same, stored_same)

-- ---- the entries at e of ds and at f of bs

module _ {ds : List ℕ} {e : ℕ} {bs : List ℕ} {f : ℕ} (s : SameEntry ds e bs f) where
  pub mark-same : same_at ds e mark_tile ≡ same_at bs f mark_tile
  unfolding mark_tile
  mark-same = name-front 6 ds e bs f s.front _ (omega arith)

  pub type-same : pixel_type ds e ≡ pixel_type bs f
  unfolding pixel_type
  type-same = same-u32 6 ds e bs f s.front 2 (omega arith)

  pub part_same : entry_part ds e ≡ entry_part bs f
  unfolding entry_part
  part_same = u32-inside 9 ds (e + 14) bs (f + 14) s.middle 0 (e + 14) (f + 14) (omega arith) (omega arith) (omega arith)

  pub compression-same : compression ds e ≡ compression bs f
  unfolding compression
  compression-same = u32-inside 9 ds (e + 14) bs (f + 14) s.middle 4 (e + 18) (f + 18) (omega arith) (omega arith) (omega arith)

  pub pyramid-byte-same : pyramid_byte ds e ≡ pyramid_byte bs f
  unfolding pyramid_byte
  pyramid-byte-same =
      let i : e + 14 + 8 ≡ e + 22 = omega arith in
      let j : f + 14 + 8 ≡ f + 22 = omega arith in
      rw (i, j) at (same_byte 9 ds (e + 14) bs (f + 14) s.middle 8 (omega arith))

  pub count_same : dimension_count ds e ≡ dimension_count bs f
  unfolding dimension_count
  count_same = u32-inside (4 + 20 * u32_at ds (e + 28)) ds (e + 28) bs (f + 28) s.rest 0 (e + 28) (f + 28) (omega arith) (omega arith) (omega arith)

  pub head-same : head_bad ds e ≡ head_bad bs f
  unfolding head_bad
  head-same = rw (mark-same, count_same)

  -- ---- dimension k

  pub place_same : (k : ℕ) → k < dimension_count ds e → Same 20 ds (dimension_place e k) bs (dimension_place f k)
  place_same k h =
      same-inside (4 + 20 * dimension_count ds e) ds (e + 28) bs (f + 28) s.rest (4 + 20 * k) 20 (dimension_place e k) (dimension_place f k)
      (omega arith) (omega arith) (omega arith)

  pub has_same : (x k : ℕ) → k < dimension_count ds e → has_letter ds e x k ≡ has_letter bs f x k
  unfolding has_letter
  has_same x k h = rw (letter-same ds (dimension_place e k) bs (dimension_place f k) (place_same k h))

  before_same : (j x : ℕ) → j < dimension_count ds e → any_below j (has_letter ds e x) ≡ any_below j (has_letter bs f x)
  before_same j x h = any-alike j (has_letter ds e x) (has_letter bs f x) (λ k l. has_same x k (omega arith))

  has-layers-same : (k : ℕ) → k < dimension_count ds e → has_layers ds e k ≡ has_layers bs f k
  unfolding has_layers
  has-layers-same k h =
      let d = place_same k h in
      rw (letter-same ds (dimension_place e k) bs (dimension_place f k) d, size_same ds (dimension_place e k) bs (dimension_place f k) d)

  repeats-same : (j : ℕ) → j < dimension_count ds e → repeats ds e j ≡ repeats bs f j
  unfolding repeats
  repeats-same j h =
      before_same j (letter ds (dimension_place e j)) h
      ∙ ap (λ x. any_below j (has_letter bs f x)) (letter-same ds (dimension_place e j) bs (dimension_place f j) (place_same j h))

  closes-same : (j : ℕ) → j < dimension_count ds e → closes_plane ds e j ≡ closes_plane bs f j
  unfolding closes_plane
  closes-same j h = rw (has_same 89 j h, before_same j 88 h)

  layers-bad-same : (j : ℕ) → j < dimension_count ds e → layers_bad ds e j ≡ layers_bad bs f j
  unfolding layers_bad
  layers-bad-same j h =
      rw (has-layers-same j h, any-alike j (has_layers ds e) (has_layers bs f) (λ k l. has-layers-same k (omega arith)), before_same j 89 h)

  pub dimensions-same : dimensions_bad ds e ≡ dimensions_bad bs f
  unfolding dimensions_bad
  dimensions-same =
      rw (
        ← count_same,
        any-alike (dimension_count ds e) (λ k. dimension_bad ds (dimension_place e k)) (λ k. dimension_bad bs (dimension_place f k))
            (λ k h. bad-same ds (dimension_place e k) bs (dimension_place f k) (place_same k h)),
        any-alike (dimension_count ds e) (repeats ds e) (repeats bs f) repeats-same,
        any-alike (dimension_count ds e) (closes_plane ds e) (closes_plane bs f) closes-same,
        any-alike (dimension_count ds e) (layers_bad ds e) (layers_bad bs f) layers-bad-same,
      )

  -- ---- the first dimension that passes a test: t of the one entry, u of the other

  module _ (t u : ℕ → Bool) (h : (k : ℕ) → k < dimension_count ds e → t k ≡ u k) where
    some_same : any_below (dimension_count ds e) t ≡ any_below (dimension_count bs f) u
    some_same = rw (← count_same) (any-alike (dimension_count ds e) t u h)

    -- where there is one
    first-same : least_below (dimension_count ds e) t < dimension_count ds e
        → Same 20 ds (dimension_place e (least_below (dimension_count ds e) t)) bs (dimension_place f (least_below (dimension_count bs f) u))
    first-same l = rw (← count_same, ← least-alike (dimension_count ds e) t u h) (place_same (least_below (dimension_count ds e) t) l)

    -- what is read of it, or z where there is none
    of-first : {A : Type 0} (v : List ℕ → ℕ → A) (z : A) → ((d c : ℕ) → Same 20 ds d bs c → v ds d ≡ v bs c)
        → cond (any_below (dimension_count ds e) t) (v ds (dimension_place e (least_below (dimension_count ds e) t))) z
        ≡ cond (any_below (dimension_count bs f) u) (v bs (dimension_place f (least_below (dimension_count bs f) u))) z
    of-first v z r =
        by_bool (any_below (dimension_count ds e) t)
        (λ o. rw (← some_same, o) (r _ _ (first-same (least-is (dimension_count ds e) t o).below)))
        (λ o. rw (← some_same, o))

  -- ---- the dimension of the letter x

  -- where the entry has it
  pub letter-place-same : (x : ℕ) → letter_index ds e x < dimension_count ds e → Same 20 ds (letter_place ds e x) bs (letter_place bs f x)
  unfolding letter_place letter_index
  letter-place-same x h = first-same (has_letter ds e x) (has_letter bs f x) (has_same x) h

  -- what is read of it, or z where the entry lacks it
  of-letter : {A : Type 0} (x : ℕ) (v : List ℕ → ℕ → A) (z : A) → ((d c : ℕ) → Same 20 ds d bs c → v ds d ≡ v bs c)
      → cond (any_below (dimension_count ds e) (has_letter ds e x)) (v ds (letter_place ds e x)) z
      ≡ cond (any_below (dimension_count bs f) (has_letter bs f x)) (v bs (letter_place bs f x)) z
  unfolding letter_place letter_index
  of-letter x v z r = of-first (has_letter ds e x) (has_letter bs f x) (has_same x) v z r

  -- what is taken from its start
  by-start : {A : Type 0} (x : ℕ) (g : ℕ → A) (z : A)
      → cond (any_below (dimension_count ds e) (has_letter ds e x)) (g (start ds (letter_place ds e x))) z
      ≡ cond (any_below (dimension_count bs f) (has_letter bs f x)) (g (start bs (letter_place bs f x))) z
  by-start x g z = of-letter x (λ ls d. g (start ls d)) z (λ d c i. ap g (start-same ds d bs c i))

  pub m-same : m_index_of ds e ≡ m_index_of bs f
  unfolding m_index_of
  m-same = by-start 77 (λ x. Some (signed32 x)) None

  pub rank_same : (k : ℕ) → rank_of ds k e ≡ rank_of bs k f
  unfolding rank_of
  rank_same k = by-start 77 (λ x. (biased x + 1) * 4096 + k) k

  pub tile-start-same : (x : ℕ) → tile_start ds e x ≡ tile_start bs f x
  unfolding tile_start
  tile-start-same x = by-start x biased (2 ^ 31)

  pub start-count-same : (x : ℕ) → start_count ds e x ≡ start_count bs f x
  unfolding start_count
  start-count-same x = of-letter x size 1 (λ d c i. size_same ds d bs c i)

  pub has-start-same : (starts : List ℤ) (any_scene : Bool) (x : ℕ) → has_start ds e starts any_scene x ≡ has_start bs f starts any_scene x
  unfolding has_start
  has-start-same starts any_scene x = rw (tile-start-same x, start-count-same x)

  -- ---- the dimension with layers

  -- what is read of it, or z where the entry has no layers
  of-layers : {A : Type 0} (v : List ℕ → ℕ → A) (z : A) → ((d c : ℕ) → Same 20 ds d bs c → v ds d ≡ v bs c)
      → cond (is_layered ds e) (v ds (layers_place ds e)) z ≡ cond (is_layered bs f) (v bs (layers_place bs f)) z
  unfolding is_layered layers_place layers_index
  of-layers v z r = of-first (has_layers ds e) (has_layers bs f) has-layers-same v z r

  pub layer-count-same : layer_count ds e ≡ layer_count bs f
  unfolding layer_count
  layer-count-same = of-layers size 1 (λ d c i. size_same ds d bs c i)

  pub layers-same : layers_of ds e ≡ layers_of bs f
  unfolding layers_of
  layers-same =
      of-layers (λ ls d. Some (layers_at ls d)) None
      (λ d c i. rw (letter-same ds d bs c i, start-same ds d bs c i, size_same ds d bs c i))

  pub asked-layer-same : (starts : List ℤ) → asked_layer ds e starts ≡ asked_layer bs f starts
  unfolding asked_layer
  asked-layer-same starts =
      of-layers (λ ls d. asked_start starts (letter ls d) - biased (start ls d)) 0
      (λ d c i. rw (letter-same ds d bs c i, start-same ds d bs c i))

  -- ---- X and Y, where the dimensions are right

  module _ (h : dimensions_bad ds e ≡ false) where
    pub x-same : Same 20 ds (letter_place ds e 88) bs (letter_place bs f 88)
    x-same = letter-place-same 88 (dimensions-ok ds e h).x.index

    pub y-same : Same 20 ds (letter_place ds e 89) bs (letter_place bs f 89)
    y-same = letter-place-same 89 (dimensions-ok ds e h).y.index

    pub is-pyramid-same : is_pyramid ds e ≡ is_pyramid bs f
    unfolding is_pyramid
    is-pyramid-same =
        rw (
          stored_same ds _ bs _ x-same,
          size_same ds _ bs _ x-same,
          stored_same ds _ bs _ y-same,
          size_same ds _ bs _ y-same,
        )

    pub layer-size-same : layer_size ds e ≡ layer_size bs f
    unfolding layer_size
    layer-size-same = rw (stored_same ds _ bs _ x-same, stored_same ds _ bs _ y-same, type-same)

    pub pixels-size-same : pixels_size ds e ≡ pixels_size bs f
    unfolding pixels_size
    pixels-size-same = rw (layer-count-same, layer-size-same)

    pub rectangle-same : rectangle ds e ≡ rectangle bs f
    unfolding rectangle
    rectangle-same =
        rw (
          start-same ds _ bs _ x-same,
          start-same ds _ bs _ y-same,
          size_same ds _ bs _ x-same,
          size_same ds _ bs _ y-same,
        )

    pub selects-same : (starts : List ℤ) (any_scene : Bool) → selects ds starts any_scene e ≡ selects bs starts any_scene f
    unfolding selects
    selects-same starts any_scene =
        rw (
          is-pyramid-same,
          all_alike 26 (λ i. has_start ds e starts any_scene (65 + i)) (λ i. has_start bs f starts any_scene (65 + i))
              (λ i l. has-start-same starts any_scene (65 + i)),
        )
