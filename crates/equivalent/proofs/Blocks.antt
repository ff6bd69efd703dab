-- Two sub-blocks that are the same, of entries that are: their sizes, their parts byte for byte, and whether they declare chunks. Assumes nothing.
use Prim.Native.Nat.{ℕ, ◌+◌, ◌*◌, ◌≤◌, ◌<◌}
use mathlib.Core.Path.{◌≡◌, refl, ap}
use mathlib.Core.List.{List}
use native.Mathlib.Omega.{arith}
use Rattle.format.specs.Entry.{dimension_count, layer_count}
use Rattle.format.specs.SubBlock.{metadata_size, attachment_size, data_size, fixed_part, layer_size, metadata_place, pixels_place, layer_pixels_place}
use Rattle.format.specs.SubBlock.{attachment_place}
use Rattle.format.specs.Container.{is_container}
use Rattle.format.specs.Masks.{has_chunks}
use Rattle.format.specs.declared.Release.{Release}
use Rattle.format.specs.declared.Release.TheVariants.{R102, R12}
use Rattle.subblocks.specs.Judged.{Filled}
use Rattle.subblocks.proofs.PartLaws.{layer-ends}
use Rattle.equivalent.specs.Same.{Same, SameEntry, SameBlock}
use Rattle.equivalent.proofs.Reading.{same-within, same-inside, u32-inside, u64-inside}
use Rattle.equivalent.proofs.Entries.{count_same, layer-size-same}

-- bytes that are the same declare a container or don't
pub container-same : (n : ℕ) (ds : List ℕ) (a : ℕ) (bs : List ℕ) (b : ℕ) → Same n ds a bs b → is_container ds a n ≡ is_container bs b n
unfolding is_container
container-same n ds a bs b s = rw s

pub fixed_same : {ds : List ℕ} {e : ℕ} {bs : List ℕ} {f : ℕ} → SameEntry ds e bs f → fixed_part (dimension_count ds e) ≡ fixed_part (dimension_count bs f)
fixed_same s = ap fixed_part (count_same s)

module _ {ds₀ : List ℕ} {e : ℕ} {ds : List ℕ} {q : ℕ} {bs₀ : List ℕ} {f : ℕ} {bs : List ℕ} {p : ℕ} (s : SameBlock ds₀ e ds q bs₀ f bs p) where
  -- ---- the sizes

  pub metadata-size-same : metadata_size ds q ≡ metadata_size bs p
  unfolding metadata_size
  metadata-size-same = u32-inside 16 ds (q + 32) bs (p + 32) s.sizes 0 (q + 32) (p + 32) (omega arith) (omega arith) (omega arith)

  pub attachment-size-same : attachment_size ds q ≡ attachment_size bs p
  unfolding attachment_size
  attachment-size-same = u32-inside 16 ds (q + 32) bs (p + 32) s.sizes 4 (q + 36) (p + 36) (omega arith) (omega arith) (omega arith)

  pub data-size-same : data_size ds q ≡ data_size bs p
  unfolding data_size
  data-size-same = u64-inside 16 ds (q + 32) bs (p + 32) s.sizes 8 (q + 40) (p + 40) (omega arith) (omega arith) (omega arith)

  -- ---- the parts: o of their bytes stand before one of n bytes

  within : (o n x y : ℕ) → x ≡ metadata_place ds₀ e q + o → y ≡ metadata_place bs₀ f p + o
      → o + n ≤ metadata_size ds q + data_size ds q + attachment_size ds q → Same n ds x bs y
  within o n x y i j h =
      same-inside (metadata_size ds q + data_size ds q + attachment_size ds q) ds (metadata_place ds₀ e q) bs (metadata_place bs₀ f p) s.parts o n x y i j h

  pub metadata-same : Same (metadata_size ds q) ds (metadata_place ds₀ e q) bs (metadata_place bs₀ f p)
  metadata-same =
      within 0 (metadata_size ds q) (metadata_place ds₀ e q) (metadata_place bs₀ f p) (omega arith) (omega arith) (omega arith)

  pub pixels-same : Same (data_size ds q) ds (pixels_place ds₀ e ds q) bs (pixels_place bs₀ f bs p)
  unfolding pixels_place
  pixels-same = rw (← metadata-size-same) (within (metadata_size ds q) (data_size ds q) _ _ refl refl (omega arith))

  -- those of layer l, where the entries are the same too
  pub layer-same : SameEntry ds₀ e bs₀ f → Filled ds₀ e ds q → (l : ℕ) → l < layer_count ds₀ e
      → Same (layer_size ds₀ e) ds (layer_pixels_place ds₀ e ds q l) bs (layer_pixels_place bs₀ f bs p l)
  unfolding layer_pixels_place
  layer-same i j l h =
      rw (← layer-size-same i j.agreed.placed.listed.dimensions)
      (same-within (data_size ds q) ds _ bs _ pixels-same (l * layer_size ds₀ e) (layer_size ds₀ e) (layer-ends ds₀ e ds q j l h))

  pub attachment-same : Same (attachment_size ds q) ds (attachment_place ds₀ e ds q) bs (attachment_place bs₀ f bs p)
  unfolding attachment_place pixels_place
  attachment-same =
      rw (← metadata-size-same, ← data-size-same)
      (within (metadata_size ds q + data_size ds q) (attachment_size ds q) _ _ (omega arith) (omega arith) (omega arith))

  -- ---- chunks are declared by the one or not, as by the other

  pub chunks-same : (r : Release) → has_chunks ds₀ e ds q r ≡ has_chunks bs₀ f bs p r
  unfolding has_chunks
  chunks-same R102 = refl
  chunks-same R12 =
      rw (← metadata-size-same) (container-same (metadata_size ds q) ds (metadata_place ds₀ e q) bs (metadata_place bs₀ f p) metadata-same)
