-- What a chunk and a mask that are not refused have, and where a mask's bits lie. Assumes nothing.
use Prim.Native.Nat.{ℕ, zero, suc, ◌+◌, ◌-◌, ◌*◌, ◌/◌, ◌%◌, ◌^◌, ◌≤◌, ◌<◌}
use mathlib.Core.Path.{◌≡◌, sym}
use mathlib.Core.List.{List, [], ◌∷◌}
use mathlib.Core.Bool.{Bool, true, false, true≢false}
use native.Mathlib.Omega.{arith}
use native.Mathlib.Nat.{mul-le-mul_right}
use lib.ListN.{length, get_or}
use lib.Dec.{eqb}
use borrow.Author.Tests.{ltb-false}
use Rattle.format.specs.Bytes.{any_of}
use Rattle.format.specs.Masks.{chunk_size, is_mask, mask_width, mask_height, mask_stride, mask_bad, mask_byte, mask_valid}
use Rattle.format.proofs.Flags.{any_here, any-later, lt-yes'}
use Rattle.format.proofs.Below.{none}
use Rattle.format.proofs.ChunkWalk.{Chunked}

-- one of the tests holds: the one at i
pub any_at : (ts : List Bool) (i : ℕ) → get_or ts i false ≡ true → true ≡ any_of ts
any_at [] i e = absurd (true≢false (sym e))
any_at (t ∷ ts) zero e = any_here t ts e
any_at (t ∷ ts) (suc i) e = any-later t ts (any_at ts i e)

-- a mask by itself is not refused: its fields and lines lie in the payload
pub record MaskFits (bs : List ℕ) (c : ℕ) : Type 0 where
  pub fields : 16 ≤ chunk_size bs c
  pub columns : mask_width bs c ≤ mask_stride bs c * 8
  pub lines : 16 + mask_stride bs c * mask_height bs c ≤ chunk_size bs c

pub mask_fits : (bs : List ℕ) (c : ℕ) → mask_bad bs c ≡ false → MaskFits bs c
unfolding mask_bad
mask_fits bs c e = record { fields = ltb-false _ _ (none _ e 0); columns = ltb-false _ _ (none _ e 5); lines = ltb-false _ _ (none _ e 6) }

-- the byte of a pixel lies in the lines
pub pixel-within : (x y w h stride : ℕ) → x < w → w ≤ stride * 8 → y < h → y * stride + x / 8 < stride * h
pixel-within x y w h stride i j k = omega (arith, mul-le-mul_right stride k)

-- the fields of a mask that is not refused lie before end
pub fields_within : (bs : List ℕ) (end : ℕ) (seen : Bool) (c : ℕ) → Chunked bs end seen c → is_mask bs c ≡ true → c + 36 ≤ end
fields_within bs end seen c p h = omega (arith, (mask_fits bs c (p.mask h).1).fields, p.payload)

-- ---- a pixel of a mask

pub byte-place : (c stride x y : ℕ) → c + 36 + y * stride + x / 8 ≡ mask_byte c stride x y
unfolding mask_byte
byte-place c stride x y = omega arith

-- its byte lies in the slice: width w, height h and stride r are those that were read
pub byte-read : (bs : List ℕ) (c x y w h r : ℕ) → mask_bad bs c ≡ false → c + 20 + chunk_size bs c ≤ length bs
    → w ≡ mask_width bs c → x < w → h ≡ mask_height bs c → y < h → r ≡ mask_stride bs c → c + 36 + y * r + x / 8 < length bs
byte-read bs c x y w h r e l i j k m n =
    let f = mask_fits bs c e in
    let p = pixel-within x y (mask_width bs c) (mask_height bs c) (mask_stride bs c) (omega arith) f.columns (omega arith) in
    rw n (omega (arith, f.lines, p))

-- its bit: b is the byte that was read there
pub bit-read : (bs : List ℕ) (c x y w h r b : ℕ) → w ≡ mask_width bs c → x < w → h ≡ mask_height bs c → y < h → r ≡ mask_stride bs c
    → b ≡ get_or bs (c + 36 + y * r + x / 8) 0 → eqb (b / 2 ^ (7 - x % 8) % 2) 1 ≡ mask_valid bs c x y
unfolding mask_valid
bit-read bs c x y w h r b i j k m n o = rw (← byte-place, ← n, ← o, lt-yes' _ _ _ i j, lt-yes' _ _ _ k m)
