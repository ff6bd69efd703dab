-- Where the parts of a judged sub-block lie: all in its file. Assumes nothing.
use Prim.Native.Nat.{ℕ, ◌+◌, ◌-◌, ◌*◌, ◌^◌, ◌≤◌, ◌<◌}
use mathlib.Core.Path.{◌≡◌, refl, sym, ◌∙◌}
use mathlib.Core.List.{List, []}
use mathlib.Core.Bool.{Bool, true, false, cond, not}
use Rattle.format.specs.Checks.{first}
use Rattle.format.specs.Container.{is_container}
use Rattle.format.specs.Masks.{has_chunks, chunks_rows, mask_from}
use Rattle.format.specs.Directory.{attachment_rows}
use Rattle.format.specs.Records.{mask_of}
use Rattle.format.specs.declared.Release.{Release}
use Rattle.format.specs.declared.Release.TheVariants.{R102, R12}
use Rattle.format.specs.Checks.{Verdict}
use Rattle.format.specs.Checks.{Accepted}
use Rattle.format.specs.declared.TileMask.{TileMask}
use Rattle.std.specs.Prelude.{Option, None}
use native.Mathlib.Nat.{add-sub_cancel_left, mul_comm, mul_assoc, mul-pos, mul-le-mul, mul-le-mul_right}
use native.Mathlib.Omega.{arith}
use lib.ListN.{length}
use lib.Dec.{eqb, ltb}
use borrow.Author.Tests.{lt-ltb, le-ltb, ltb-false, leb-false, eqb-true, not-false}
use Rattle.format.specs.Segments.{room}
use Rattle.format.specs.Entry.{pixel_type, pixel_bytes, dimension_count, next_entry, letter_place, stored, is_layered, layer_count}
use Rattle.format.specs.SubBlock.{metadata_size, attachment_size, data_size, fixed_part, sub_block_bad, layer_size, pixels_size, contents_bad, metadata_place}
use Rattle.format.specs.SubBlock.{pixels_place, layer_pixels_place, attachment_place}
use Rattle.format.proofs.Below.{by_bool, none}
use Rattle.format.proofs.Flags.{is-true-not, is-false-not}
use Rattle.fields.proofs.Products.{below}
use Rattle.entries.proofs.EntryLaws.{dimensions-ok, pixel-bytes-few, layers-placed, one-plane, several-planes}
use Rattle.subblocks.specs.Judged.{Listed, Placed, CopyAgrees, Filled}

-- the entry's fixed part lies in its file
pub listed_in : (ds : List ℕ) (e : ℕ) → Listed ds e → e + 32 ≤ length ds
unfolding next_entry
listed_in ds e h = omega (arith, h.entry)

-- what bounds the number of its pixels' bytes: x and y were read as stored sizes, b as the bytes a pixel of the type t
module _ (ds : List ℕ) (e : ℕ) (h : Listed ds e) where
  pub x-stored : (d x : ℕ) → d ≡ letter_place ds e 88 → x ≡ stored ds d → x < 2 ^ 32
  x-stored d x i j = let k : x ≡ stored ds (letter_place ds e 88) = cc in omega (arith, (dimensions-ok ds e h.dimensions).x-sized.stored-fits)

  pub y-stored : (d y : ℕ) → d ≡ letter_place ds e 89 → y ≡ stored ds d → y < 2 ^ 32
  y-stored d y i j = let k : y ≡ stored ds (letter_place ds e 89) = cc in omega (arith, (dimensions-ok ds e h.dimensions).y-sized.stored-fits)

  pub sides-fit : (d c x y : ℕ) → d ≡ letter_place ds e 88 → x ≡ stored ds d → c ≡ letter_place ds e 89 → y ≡ stored ds c → x * y < 2 ^ 64
  sides-fit d c x y i j k l = omega (arith, below 32 (x-stored d x i j) (y-stored c y k l))

  pub bytes-some : (t b : ℕ) → t ≡ pixel_type ds e → b ≡ pixel_bytes t → 0 < b
  bytes-some t b i j = let k : (b ≡ 0) → ⊥ = λ z. h.pixel (rw (← i) (sym j ∙ z)) in omega (arith, k)

-- bytes a pixel, times a number of layers
pub bytes_fit : (t b n : ℕ) → b ≡ pixel_bytes t → n < 2 ^ 32 → b * n < 2 ^ 64
bytes_fit t b n i h = let few : b ≤ 24 = rw i (pixel-bytes-few t) in omega (arith, mul-le-mul few h)

pub bytes-positive : (b n : ℕ) → 0 < b → 0 < n → 0 < b * n
bytes-positive b n h k = mul-pos h k

-- the bytes of one layer, and of n of them, by what was read: x and y, the stored sizes of X, at u, and Y, at v, and b, the bytes a pixel of the type t
module _ (ds : List ℕ) (e u v x y t b : ℕ) (i : u ≡ letter_place ds e 88) (j : x ≡ stored ds u) (k : v ≡ letter_place ds e 89) (l : y ≡ stored ds v)
    (m : t ≡ pixel_type ds e) (o : b ≡ pixel_bytes t) where
  pub layer-read : x * y * b ≡ layer_size ds e
  unfolding layer_size
  layer-read = rw (← i, ← j, ← k, ← l, ← m, ← o)

  pub layer_fits : layer_size ds e < 2 ^ 64 → x * y * b < 2 ^ 64
  layer_fits h = rw (← layer-read) at h

  -- r says whether z is x times y times b times n
  pub product-read : (z n : ℕ) (r : Bool) → n ≡ layer_count ds e → r ≡ eqb z (x * y * (b * n)) → r ≡ eqb z (pixels_size ds e)
  unfolding pixels_size
  product-read z n r p h = rw (← p, ← layer-read, mul_comm n (x * y * b), mul_assoc (x * y) b n) h

-- the fixed part F
pub record Fixed (ds : List ℕ) (e : ℕ) (bs : List ℕ) (q : ℕ) : Type 0 where
  pub least : 256 ≤ fixed_part (dimension_count ds e)
  pub most : fixed_part (dimension_count ds e) ≤ 368
  pub within : q + 32 + fixed_part (dimension_count ds e) ≤ length bs

part-least : (n : ℕ) → 256 ≤ fixed_part n
unfolding fixed_part
part-least n = omega arith

part-most : (n : ℕ) → n ≤ 16 → fixed_part n ≤ 368
unfolding fixed_part
part-most n h = omega arith

fixed_in : (ds : List ℕ) (e : ℕ) (bs : List ℕ) (q : ℕ) → Placed ds e bs q → fixed_part (dimension_count ds e) ≤ room bs q → Fixed ds e bs q
fixed_in ds e bs q p h = record {
  least = part-least (dimension_count ds e);
  most = part-most (dimension_count ds e) p.listed.few;
  within = omega (arith, p.within);
}

pub agreed-in : (ds : List ℕ) (e : ℕ) (bs : List ℕ) (q : ℕ) → CopyAgrees ds e bs q → Fixed ds e bs q
unfolding sub_block_bad
agreed-in ds e bs q a = fixed_in ds e bs q a.placed (ltb-false (room bs q) (fixed_part (dimension_count ds e)) (none _ a.block 0))

-- F, which is f, is not over the room, which is r
pub fixed-within : (ds : List ℕ) (e : ℕ) (bs : List ℕ) (q r f : ℕ) → Placed ds e bs q → r ≡ room bs q → f ≡ fixed_part (dimension_count ds e) → f ≤ r
    → q + 32 + fixed_part (dimension_count ds e) ≤ length bs
fixed-within ds e bs q r f p i j h = omega (arith, p.within)

-- the three sizes lie in the file
pub sizes-in : (ds : List ℕ) (e : ℕ) (bs : List ℕ) (q : ℕ) → CopyAgrees ds e bs q → q + 48 ≤ length bs
sizes-in ds e bs q a = let i = agreed-in ds e bs q a in omega (arith, i.least, i.within)

-- metadata, pixels and attachment
pub record Laid (ds : List ℕ) (e : ℕ) (bs : List ℕ) (q : ℕ) : Type 0 where
  pub fixed : Fixed ds e bs q
  pub metadata : metadata_place ds e q + metadata_size bs q ≤ length bs
  pub pixels : pixels_place ds e bs q + data_size bs q ≤ length bs
  pub attachment : attachment_place ds e bs q + attachment_size bs q ≤ length bs
  pub size : data_size bs q ≡ pixels_size ds e

pub filled_in : (ds : List ℕ) (e : ℕ) (bs : List ℕ) (q : ℕ) → Filled ds e bs q → Laid ds e bs q
unfolding contents_bad metadata_place pixels_place attachment_place
filled_in ds e bs q f =
    let fit = ltb-false (room bs q) (fixed_part (dimension_count ds e) + metadata_size bs q + data_size bs q + attachment_size bs q) (none _ f.contents 3) in
    let within = f.agreed.placed.within in
    record {
      fixed = agreed-in ds e bs q f.agreed;
      metadata = omega arith;
      pixels = omega arith;
      attachment = omega arith;
      size = eqb-true _ _ (not-false _ (none _ f.contents 4));
    }

-- ---- layers: the bytes of each lie among those of all

-- n parts of b bytes: the i-th ends among them
part_end : (i n b : ℕ) → i < n → i * b + b ≤ n * b
part_end i n b h = omega (arith, mul-le-mul_right b h)

planes-some : (ds : List ℕ) (e : ℕ) → 0 < layer_count ds e
planes-some ds e =
    by_bool (is_layered ds e) (λ h. rw (several-planes ds e h) (omega (arith, (layers-placed ds e h).several))) (λ h. rw (one-plane ds e h) (omega arith))

module _ (ds : List ℕ) (e : ℕ) (bs : List ℕ) (q : ℕ) (f : Filled ds e bs q) where
  pub layer-ends : (l : ℕ) → l < layer_count ds e → l * layer_size ds e + layer_size ds e ≤ data_size bs q
  unfolding pixels_size
  layer-ends l h = rw (filled_in ds e bs q f).size (part_end l (layer_count ds e) (layer_size ds e) h)

  pub layer-in : (l : ℕ) → l < layer_count ds e → layer_pixels_place ds e bs q l + layer_size ds e ≤ pixels_place ds e bs q + data_size bs q
  unfolding layer_pixels_place
  layer-in l h = omega (arith, layer-ends l h)

  -- an address has 64 bits, and DataSize is not negative
  pub layer-small : layer_size ds e < 2 ^ 63
  unfolding contents_bad
  layer-small = omega (arith, layer-ends 0 (planes-some ds e), leb-false (2 ^ 63) (data_size bs q) (none _ f.contents 2))

  -- where the pixels begin, and n bytes a layer, as they were read
  pub layer-within : (p n l : ℕ) → l < layer_count ds e → p ≡ pixels_place ds e bs q → n ≡ layer_size ds e → p + l * n ≤ length bs
  layer-within p n l h i j = rw (i, j) (omega (arith, layer-ends l h, (filled_in ds e bs q f).pixels))

  -- where the first begins the pixels do
  pub first-layer : (l p : ℕ) → l ≡ 0 → p ≡ pixels_place ds e bs q → p ≡ layer_pixels_place ds e bs q l
  unfolding layer_pixels_place
  first-layer l p z i = rw z (omega arith)

  pub later-layer : (l p n : ℕ) → p ≡ pixels_place ds e bs q → n ≡ layer_size ds e → p + l * n ≡ layer_pixels_place ds e bs q l
  unfolding layer_pixels_place
  later-layer l p n i j = rw (i, j)

-- ---- refusal 16: the room r against F, which is f, and the sizes m, d and a

module _ (ds : List ℕ) (e : ℕ) (bs : List ℕ) (q r f m d a : ℕ) (i : r ≡ room bs q) (j : f ≡ fixed_part (dimension_count ds e))
    (k : m ≡ metadata_size bs q) (l : d ≡ data_size bs q) (n : a ≡ attachment_size bs q) where
  pub sum_over : r < f + m + d + a → ltb (room bs q) (fixed_part (dimension_count ds e) + metadata_size bs q + data_size bs q + attachment_size bs q) ≡ true
  sum_over h = rw (← i, ← j, ← k, ← l, ← n) (lt-ltb r (f + m + d + a) h)

  pub sum_fits : f + m + d + a ≤ r → ltb (room bs q) (fixed_part (dimension_count ds e) + metadata_size bs q + data_size bs q + attachment_size bs q) ≡ false
  sum_fits h = rw (← i, ← j, ← k, ← l, ← n) (le-ltb r (f + m + d + a) h)

-- r says whether the size d of the pixels is right
module _ (ds : List ℕ) (e : ℕ) (bs : List ℕ) (q d : ℕ) (l : d ≡ data_size bs q) (r : Bool) (k : r ≡ eqb d (pixels_size ds e)) where
  pub size-wrong : not r ≡ true → eqb (data_size bs q) (pixels_size ds e) ≡ false
  size-wrong h = rw (← l) (is-false-not r _ k h)

  pub size-right : not r ≡ false → eqb (data_size bs q) (pixels_size ds e) ≡ true
  size-right h = rw (← l) (is-true-not r _ k h)

-- ---- whether the attachment is a chunk container, by the release rel and the metadata, at p and of n bytes

module _ (ds : List ℕ) (e : ℕ) (bs : List ℕ) (q : ℕ) (rel : Release) where
  pub older-plain : rel ≡ R102 → false ≡ has_chunks ds e bs q rel
  unfolding has_chunks
  older-plain i = rw i

  pub newer-declared : (p n : ℕ) (r : Bool) → rel ≡ R12 → p ≡ metadata_place ds e q → n ≡ metadata_size bs q → r ≡ is_container bs p n
      → r ≡ has_chunks ds e bs q rel
  unfolding has_chunks
  newer-declared p n r i j k h = rw (i, ← j, ← k) h

-- ---- the attachment at a, of n bytes, under the release rel; r says whether it is a chunk container

-- the chunks of a container whose rows accept
pub container-chunks : (ds : List ℕ) (e : ℕ) (bs : List ℕ) (q : ℕ) (rel : Release) → has_chunks ds e bs q rel ≡ true
    → first (attachment_rows ds e bs q rel) ≡ Accepted
    → first (chunks_rows (attachment_size bs q) bs (attachment_place ds e bs q + attachment_size bs q) false (attachment_place ds e bs q)) ≡ Accepted
unfolding attachment_rows
container-chunks ds e bs q rel h a = rw h at a

module _ (ds : List ℕ) (e : ℕ) (bs : List ℕ) (q a n : ℕ) (j : n ≡ attachment_size bs q) where
  -- an empty one has no chunks, whatever the metadata says
  pub empty-accepted : (rel : Release) → n ≡ 0 → Accepted ≡ first (attachment_rows ds e bs q rel)
  unfolding attachment_rows chunks_rows
  empty-accepted rel z = rw (← j, z) (go (has_chunks ds e bs q rel))
    where
      go : (b : Bool) → Accepted ≡ first (cond b [] [])
      go true = refl
      go false = refl

  pub empty-unmasked : (rel : Release) → n ≡ 0 → ◌≡◌ {A = Option TileMask} None (mask_of ds e bs q rel)
  unfolding mask_of mask_from
  empty-unmasked rel z = rw (← j, z) (go (has_chunks ds e bs q rel))
    where
      go : (b : Bool) → ◌≡◌ {A = Option TileMask} None (cond b None None)
      go true = refl
      go false = refl

  module _ (i : a ≡ attachment_place ds e bs q) where
    pub attachment-in : Filled ds e bs q → a + n ≤ length bs
    attachment-in f = omega (arith, (filled_in ds e bs q f).attachment)

    module _ (rel : Release) (r : Bool) (k : r ≡ has_chunks ds e bs q rel) (h : not r ≡ false) where
      pub chunks-judged : (v : Verdict) → v ≡ first (chunks_rows (a + n - a) bs (a + n) false a) → v ≡ first (attachment_rows ds e bs q rel)
      unfolding attachment_rows
      chunks-judged v l = rw (is-true-not r _ k h, ← i, ← j) (rw add-sub_cancel_left at l)

      pub chunks-masked : (m : Option TileMask) → m ≡ mask_from (a + n - a) bs (a + n) a → m ≡ mask_of ds e bs q rel
      unfolding mask_of
      chunks-masked m l = rw (is-true-not r _ k h, ← i, ← j) (rw add-sub_cancel_left at l)

      pub chunks-accepted : first (attachment_rows ds e bs q rel) ≡ Accepted → first (chunks_rows (a + n - a) bs (a + n) false a) ≡ Accepted
      chunks-accepted l = rw (add-sub_cancel_left, i, j) (container-chunks ds e bs q rel (is-true-not r _ k h) l)

-- the attachment of one that is no container
module _ (ds : List ℕ) (e : ℕ) (bs : List ℕ) (q : ℕ) (rel : Release) (r : Bool) (k : r ≡ has_chunks ds e bs q rel) (h : not r ≡ true) where
  pub plain-accepted : Accepted ≡ first (attachment_rows ds e bs q rel)
  unfolding attachment_rows
  plain-accepted = rw (is-false-not r _ k h)

  pub plain-unmasked : ◌≡◌ {A = Option TileMask} None (mask_of ds e bs q rel)
  unfolding mask_of
  plain-unmasked = rw (is-false-not r _ k h)
