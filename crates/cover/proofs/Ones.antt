-- The ones of a byte's first bits, and of a map's.
use mathlib.Core.Path.{◌≡◌, refl, sym, ap, ◌∙◌}
use Prim.Native.Nat.{ℕ, zero, suc, ◌+◌, ◌*◌, ◌-◌, ◌/◌, ◌%◌, ◌^◌, ◌≤◌, ◌<◌}
use native.Mathlib.Nat.{add_comm, pow-suc, div-div-eq-div-mul, div-eq_of_lt, div-one}
use native.Mathlib.Omega.{arith}
use mathlib.Core.List.{List}
use lib.Count as Count
use lib.Count.{ones_step}
use lib.ListN.{get_or}
use Rattle.plane.specs.Sums.{one, sum, count}
use Rattle.plane.specs.Paint.{bit_in, bit, ones}
use Rattle.plane.proofs.SumLaws.{sum-ext, sum-add, count-le}
use Rattle.plane.proofs.BitLaws.{digit}
use Rattle.plane.proofs.PaintLaws.{Bytes, cell}

no_ones : Count.ones 0 ≡ 0
unfolding Count.ones
no_ones = refl

-- the first r bits of a byte are those of what a shift by the others leaves
high_ones : (x : ℕ) → x < 256 → (r : ℕ) → r ≤ 8 → count r (bit_in x) ≡ Count.ones (x / 2 ^ (8 - r))
unfolding sum bit_in
high_ones x h zero l = sym (ap Count.ones (div-eq_of_lt h) ∙ no_ones)
high_ones x h (suc r) l =
    let e : 8 - suc r ≡ 7 - r = omega arith in
    let f : 8 - r ≡ suc (7 - r) = omega arith in
    let half : x / 2 ^ (8 - r) ≡ x / 2 ^ (7 - r) / 2 = rw (f, pow-suc) (sym (div-div-eq-div-mul x (2 ^ (7 - r)) 2)) in
    rw (high_ones x h r (omega arith), digit (x / 2 ^ (7 - r)), half, e, ones_step (x / 2 ^ (7 - r))) (add_comm _ _)

byte-ones : (x : ℕ) → x < 256 → count 8 (bit_in x) ≡ Count.ones x
byte-ones x h = high_ones x h 8 (omega arith) ∙ ap Count.ones (div-one x)

-- r bits more, of byte k
ones-more : (m : List ℕ) (k r : ℕ) → r ≤ 8 → ones (8 * k + r) m ≡ ones (8 * k) m + count r (bit_in (get_or m k 0))
ones-more m k r l = sum-add (8 * k) r _ ∙ ap (λ (z : ℕ). ones (8 * k) m + z) (sum-ext r _ _ (λ i h. ap one (sym (cell k i (omega arith) m))))

-- byte k, up to bit number n
pub next-byte : (m : List ℕ) → Bytes m → (k n : ℕ) → n ≡ 8 * (k + 1) → ones (8 * k) m + Count.ones (get_or m k 0) ≡ ones n m
next-byte m h k n e =
    ap (λ (z : ℕ). ones (8 * k) m + z) (sym (byte-ones (get_or m k 0) (h k))) ∙ sym (ones-more m k 8 (omega arith)) ∙ ap (λ (z : ℕ). ones z m) (omega arith)

-- the high bits of the last byte, where n bits end within it
pub last-ones : (m : List ℕ) → Bytes m → (n : ℕ) → ones (8 * (n / 8)) m + Count.ones (get_or m (n / 8) 0 / 2 ^ (8 - n % 8)) ≡ ones n m
last-ones m h n =
    ap (λ (z : ℕ). ones (8 * (n / 8)) m + z) (sym (high_ones (get_or m (n / 8) 0) (h (n / 8)) (n % 8) (omega arith)))
    ∙ sym (ones-more m (n / 8) (n % 8) (omega arith))
    ∙ ap (λ (z : ℕ). ones z m) (omega arith)

pub ones-bound : (n : ℕ) (m : List ℕ) → ones n m ≤ n
ones-bound n m = count-le n (bit m)

pub no_bits : (m : List ℕ) → 0 ≡ ones 0 m
unfolding sum
no_bits m = refl
