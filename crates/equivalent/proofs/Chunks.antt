-- Chunks that stand at two places with the same bytes: they are refused alike, by 17 or 18, and where they are right the masks say the same.
-- A chunk at a + i of ds stands at b + i of bs. Assumes nothing.
use Prim.Native.Nat.{ℕ, zero, suc, ◌+◌, ◌*◌, ◌/◌, ◌≤◌, ◌<◌}
use mathlib.Core.Path.{◌≡◌, refl}
use mathlib.Core.List.{List}
use mathlib.Core.Bool.{Bool, true, false, ◌||◌}
use native.Mathlib.Omega.{arith}
use native.Mathlib.Nat.{add-zero, add_assoc, add-sub_cancel_left}
use lib.ListN.{get_or}
use lib.Dec.{ltb}
use borrow.Author.Tests.{lt-ltb, le-ltb, ltb-true, ltb-false}
use Rattle.std.specs.Prelude.{Option, Some}
use Rattle.format.specs.Bytes.{u32_at, any_of}
use Rattle.format.specs.Names.{mask_guid}
use Rattle.format.specs.Checks.{first}
use Rattle.format.specs.SubBlock.{attachment_size, attachment_place}
use Rattle.format.specs.Masks.{chunk_size, next_chunk, chunk_bad, is_mask, mask_width, mask_height, representation, mask_stride, mask_bad, chunk_rows, chunks_rows}
use Rattle.format.specs.Masks.{mask_refused, has_chunks, mask_shape, mask_from, mask_byte, mask_valid}
use Rattle.format.specs.Directory.{attachment_rows}
use Rattle.format.specs.Records.{mask_of}
use Rattle.format.specs.WellFormed.{Chunks, DeclaresChunks, ChunksFill}
use Rattle.format.specs.declared.Release.{Release}
use Rattle.format.specs.Checks.{Accepted}
use Rattle.format.specs.declared.TileMask.{TileMask}
use Rattle.format.proofs.Below.{by_bool}
use Rattle.format.proofs.Firsts.{first-both}
use Rattle.format.proofs.ChunkWalk.{Chunked, chunk-fits, chunk-ok, chunks-ok, chunks-accepted}
use Rattle.masks.proofs.MaskLaws.{mask_fits, pixel-within}
use Rattle.subblocks.specs.Judged.{Judged}
use Rattle.subblocks.proofs.PartLaws.{container-chunks}
use Rattle.tiles.specs.FileTile.{unmasked}
use Rattle.equivalent.specs.Same.{Same, SameBlock}
use Rattle.equivalent.specs.Claims.{SameRefusal, accepted, refused, mask_within}
use Rattle.equivalent.proofs.Refusals.{accepted-too}
use Rattle.equivalent.proofs.Reading.{same_byte, u32-inside, same_name}
use Rattle.equivalent.proofs.Blocks.{metadata-size-same, attachment-size-same, metadata-same, attachment-same, chunks-same}

-- two masks in attachments that start at a of ds and at b of bs say the same: both or neither is there, they stand equally far into the attachments
-- and are of one shape, and the same pixels are valid
pub record SameMask (ds : List ℕ) (a : ℕ) (m : Option TileMask) (bs : List ℕ) (b : ℕ) (w : Option TileMask) : Type 0 where
  pub within : mask_within a m ≡ mask_within b w
  pub valid : (x y : ℕ) → unmasked ds m x y ≡ unmasked bs w x y

before-moved : (a b x y : ℕ) → ltb (a + x) (a + y) ≡ ltb (b + x) (b + y)
before-moved a b x y =
    by_bool (ltb (b + x) (b + y))
    (λ l. rw l (lt-ltb (a + x) (a + y) (omega (arith, ltb-true (b + x) (b + y) l))))
    (λ l. rw l (le-ltb (a + x) (a + y) (omega (arith, ltb-false (b + x) (b + y) l))))

module _ (n : ℕ) (ds : List ℕ) (a : ℕ) (bs : List ℕ) (b : ℕ) (s : Same n ds a bs b) where
  -- ---- one chunk

  module _ (i : ℕ) where
    -- the number at o of the chunk
    number : (o : ℕ) → i + o + 4 ≤ n → u32_at ds (a + i + o) ≡ u32_at bs (b + i + o)
    number o h = u32-inside n ds a bs b s (i + o) (a + i + o) (b + i + o) (omega arith) (omega arith) h

    -- its header lies in the stretch
    module _ (h : i + 20 ≤ n) where
      chunk-size-same : chunk_size ds (a + i) ≡ chunk_size bs (b + i)
      unfolding chunk_size
      chunk-size-same = number 16 (omega arith)

      is-mask-same : is_mask ds (a + i) ≡ is_mask bs (b + i)
      unfolding is_mask mask_guid
      is-mask-same = same_name n ds a bs b s i _ (omega arith)

      next-from : next_chunk ds (a + i) ≡ a + (i + 20 + chunk_size ds (a + i))
      unfolding next_chunk
      next-from = omega arith

      next-to : next_chunk bs (b + i) ≡ b + (i + 20 + chunk_size ds (a + i))
      unfolding next_chunk
      next-to = rw chunk-size-same (omega arith)

    -- a mask's fields lie in it
    module _ (h : i + 36 ≤ n) where
      width_same : mask_width ds (a + i) ≡ mask_width bs (b + i)
      unfolding mask_width
      width_same = number 20 (omega arith)

      height-same : mask_height ds (a + i) ≡ mask_height bs (b + i)
      unfolding mask_height
      height-same = number 24 (omega arith)

      representation-same : representation ds (a + i) ≡ representation bs (b + i)
      unfolding representation
      representation-same = number 28 (omega arith)

      stride-same : mask_stride ds (a + i) ≡ mask_stride bs (b + i)
      unfolding mask_stride
      stride-same = number 32 (omega arith)

      shape_same : mask_shape ds (a + i) ≡ mask_shape bs (b + i)
      unfolding mask_shape
      shape_same = rw (width_same, height-same, stride-same)

      fields-same : mask_bad ds (a + i) ≡ mask_bad bs (b + i)
      unfolding mask_bad
      fields-same = rw (chunk-size-same (omega arith), width_same, height-same, representation-same, stride-same)

    -- a place behind the stretch is so at both
    behind-same : (o : ℕ) → ltb (a + n) (a + i + o) ≡ ltb (b + n) (b + i + o)
    behind-same o = rw (add_assoc a i o, add_assoc b i o) (before-moved a b n (i + o))

    -- refusal 17
    pub chunk-bad-same : chunk_bad ds (a + n) (a + i) ≡ chunk_bad bs (b + n) (b + i)
    unfolding chunk_bad next_chunk any_of
    chunk-bad-same =
        by_bool (ltb (a + n) (a + i + 20))
        (λ o. rw (← behind-same 20, o))
        (λ o.
        let size = chunk-size-same (omega (arith, ltb-false (a + n) (a + i + 20) o)) in
        rw (← behind-same 20, o, ← size, add_assoc (a + i) 20, add_assoc (b + i) 20, behind-same (20 + chunk_size ds (a + i))))

    -- refusal 18, of a chunk that lies in the stretch
    module _ (fits : i + 20 + chunk_size ds (a + i) ≤ n) where
      bad-mask-same : mask_bad ds (a + i) ≡ mask_bad bs (b + i)
      unfolding mask_bad any_of
      bad-mask-same =
          by_bool (ltb (chunk_size ds (a + i)) 16)
          (λ o. rw (← chunk-size-same (omega arith), o))
          (λ o. fields-same (omega (arith, ltb-false (chunk_size ds (a + i)) 16 o)))

      pub mask-refused-same : (seen : Bool) → mask_refused ds seen (a + i) ≡ mask_refused bs seen (b + i)
      unfolding mask_refused
      mask-refused-same seen = rw (is-mask-same (omega arith), bad-mask-same)

    -- a mask that is right, and lies in the stretch
    module _ (good : mask_bad ds (a + i) ≡ false) (fits : i + 20 + chunk_size ds (a + i) ≤ n) where
      mask-byte : (x y : ℕ) → x < mask_width ds (a + i) → y < mask_height ds (a + i)
          → get_or ds (mask_byte (a + i) (mask_stride ds (a + i)) x y) 0 ≡ get_or bs (mask_byte (b + i) (mask_stride ds (a + i)) x y) 0
      unfolding mask_byte
      mask-byte x y l k =
          let f = mask_fits ds (a + i) good in
          let w = pixel-within x y (mask_width ds (a + i)) (mask_height ds (a + i)) (mask_stride ds (a + i)) l f.columns k in
          let u : a + i + 20 + 16 + y * mask_stride ds (a + i) + x / 8 ≡ a + (i + 36 + (y * mask_stride ds (a + i) + x / 8)) = omega arith in
          let v : b + i + 20 + 16 + y * mask_stride ds (a + i) + x / 8 ≡ b + (i + 36 + (y * mask_stride ds (a + i) + x / 8)) = omega arith in
          rw (u, v) (same_byte n ds a bs b s (i + 36 + (y * mask_stride ds (a + i) + x / 8)) (omega (arith, f.lines)))

      valid_same : (x y : ℕ) → mask_valid ds (a + i) x y ≡ mask_valid bs (b + i) x y
      unfolding mask_valid
      valid_same x y =
          let h : i + 36 ≤ n = omega (arith, (mask_fits ds (a + i) good).fields) in
          rw (← width_same h, ← height-same h, ← stride-same h)
          (by_bool (ltb x (mask_width ds (a + i)))
          (λ l. by_bool (ltb y (mask_height ds (a + i)))
          (λ k. rw (l, k, mask-byte x y (ltb-true _ _ l) (ltb-true _ _ k)))
          (λ k. rw (l, k)))
          (λ l. rw l))

  -- ---- all of them

  -- from the chunk at i on, of which there are at most k: the same refusal, 17 or 18, or none
  walk_same : (k i : ℕ) (seen : Bool) → SameRefusal (first (chunks_rows k ds (a + n) seen (a + i))) (first (chunks_rows k bs (b + n) seen (b + i)))
  unfolding chunks_rows chunk_rows
  walk_same zero i seen = accepted
  walk_same (suc k) i seen =
      by_bool (ltb (a + i) (a + n))
      (λ l. by_bool (chunk_bad ds (a + n) (a + i))
      (λ o. rw (← before-moved a b i n, l, ← chunk-bad-same i, o) refused)
      (λ o.
      let fits : i + 20 + chunk_size ds (a + i) ≤ n = omega (arith, (chunk-fits ds (a + n) (a + i) o).1) in
      let h : i + 20 ≤ n = omega arith in
      rw (← before-moved a b i n, l, ← chunk-bad-same i, o, ← mask-refused-same i fits seen)
      (by_bool (mask_refused ds seen (a + i)) (λ m. rw m refused)
      (λ m. rw (m, next-from i h, next-to i h, ← is-mask-same i h) (walk_same k (i + 20 + chunk_size ds (a + i)) (seen || is_mask ds (a + i)))))))
      (λ l. rw (← before-moved a b i n, l) accepted)

  -- those of the whole stretch
  pub chunks-refused-same : SameRefusal (first (chunks_rows n ds (a + n) false a)) (first (chunks_rows n bs (b + n) false b))
  chunks-refused-same = rw (add-zero a, add-zero b) at (walk_same n 0 false)

  pub chunks-moved : Chunks ds a (a + n) → Chunks bs b (b + n)
  chunks-moved c = chunks-ok bs n b (accepted-too chunks-refused-same (chunks-accepted ds n a c))

  masks-from : (k i : ℕ) (seen : Bool) → first (chunks_rows k ds (a + n) seen (a + i)) ≡ Accepted
      → SameMask ds a (mask_from k ds (a + n) (a + i)) bs b (mask_from k bs (b + n) (b + i))
  unfolding chunks_rows mask_from
  masks-from zero i seen e = record { within = refl; valid = λ x y. refl }
  masks-from (suc k) i seen e =
      by_bool (ltb (a + i) (a + n))
      (λ l.
      let both = first-both (chunk_rows ds (a + n) seen (a + i)) (chunks_rows k ds (a + n) (seen || is_mask ds (a + i)) (next_chunk ds (a + i))) (rw l at e) in
      let c = chunk-ok ds (a + n) seen (a + i) both.0 in
      let h : i + 20 ≤ n = omega (arith, c.header) in
      by_bool (is_mask ds (a + i))
      (λ m. rw (← before-moved a b i n, l, ← is-mask-same i h, m) (here i seen c m))
      (λ m. rw (← before-moved a b i n, l, ← is-mask-same i h, m, next-from i h, next-to i h)
      (masks-from k (i + 20 + chunk_size ds (a + i)) (seen || is_mask ds (a + i)) (rw (next-from i h) at both.1))))
      (λ l. rw (← before-moved a b i n, l) (record { within = refl; valid = λ x y. refl }))
    where
      here : (i : ℕ) (seen : Bool) → Chunked ds (a + n) seen (a + i) → is_mask ds (a + i) ≡ true
          → SameMask ds a (Some (record { place = a + i; shape = mask_shape ds (a + i) }))
          bs b (Some (record { place = b + i; shape = mask_shape bs (b + i) }))
      here i seen c m =
          let good = (c.mask m).1 in
          let h : i + 36 ≤ n = omega (arith, (mask_fits ds (a + i) good).fields, c.payload) in
          record { within = simp (add-sub_cancel_left, shape_same i h); valid = valid_same i good (omega (arith, c.payload)) }

  -- the masks among chunks that are right
  pub masks-same : first (chunks_rows n ds (a + n) false a) ≡ Accepted → SameMask ds a (mask_from n ds (a + n) a) bs b (mask_from n bs (b + n) b)
  masks-same e =
      let from : first (chunks_rows n ds (a + n) false (a + 0)) ≡ Accepted = rw (add-zero a) e in
      rw (add-zero a, add-zero b) at (masks-from n 0 false from)

-- ---- of two sub-blocks: where the chunks of the one fill its attachment, those of the other do

pub container-moved : {ds₀ : List ℕ} {e : ℕ} {ds : List ℕ} {q : ℕ} {bs₀ : List ℕ} {f : ℕ} {bs : List ℕ} {p : ℕ} (r : Release) → SameBlock ds₀ e ds q bs₀ f bs p
    → (DeclaresChunks ds₀ e ds q r → ChunksFill ds₀ e ds q) → DeclaresChunks bs₀ f bs p r → ChunksFill bs₀ f bs p
container-moved {ds₀} {e} {ds} {q} {bs₀} {f} {bs} {p} r s h d =
    let declared = rw (← metadata-size-same s, ← metadata-same s) at d.1 in
    rw (← attachment-size-same s)
    (chunks-moved (attachment_size ds q) ds (attachment_place ds₀ e ds q) bs (attachment_place bs₀ f bs p) (attachment-same s) (h (d.0, declared)))

-- ---- their attachments are refused alike under any release

pub attachment-refused-same : {ds₀ : List ℕ} {e : ℕ} {ds : List ℕ} {q : ℕ} {bs₀ : List ℕ} {f : ℕ} {bs : List ℕ} {p : ℕ} → SameBlock ds₀ e ds q bs₀ f bs p
    → (r : Release) → SameRefusal (first (attachment_rows ds₀ e ds q r)) (first (attachment_rows bs₀ f bs p r))
unfolding attachment_rows
attachment-refused-same {ds₀} {e} {ds} {q} {bs₀} {f} {bs} {p} s r =
    by_bool (has_chunks ds₀ e ds q r)
    (λ h. rw (← chunks-same s r, h, ← attachment-size-same s)
    (chunks-refused-same (attachment_size ds q) ds (attachment_place ds₀ e ds q) bs (attachment_place bs₀ f bs p) (attachment-same s)))
    (λ h. rw (← chunks-same s r, h) accepted)

-- ---- their masks, where the first is judged under the release r

module _ {ds₀ : List ℕ} {e : ℕ} {ds : List ℕ} {q : ℕ} {bs₀ : List ℕ} {f : ℕ} {bs : List ℕ} {p : ℕ} {r : Release}
    (s : SameBlock ds₀ e ds q bs₀ f bs p) (j : Judged ds₀ e ds q r) where
  pub mask-same : SameMask ds (attachment_place ds₀ e ds q) (mask_of ds₀ e ds q r) bs (attachment_place bs₀ f bs p) (mask_of bs₀ f bs p r)
  unfolding mask_of
  mask-same =
      by_bool (has_chunks ds₀ e ds q r)
      (λ h. rw (← chunks-same s r, h, ← attachment-size-same s)
      (masks-same (attachment_size ds q) ds (attachment_place ds₀ e ds q) bs (attachment_place bs₀ f bs p) (attachment-same s)
      (container-chunks ds₀ e ds q r h j.attachment)))
      (λ h. rw (← chunks-same s r, h) (record { within = refl; valid = λ x y. refl }))

  pub unmasked-same : (x y : ℕ) → unmasked ds (mask_of ds₀ e ds q r) x y ≡ unmasked bs (mask_of bs₀ f bs p r) x y
  unmasked-same = mask-same.valid
