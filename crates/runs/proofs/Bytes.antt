-- Runs of bits within a byte, and bytes whose bits are all the same.
use mathlib.Core.Path.{◌≡◌, refl, sym, ap, ◌∙◌}
use mathlib.Core.Logic.{by_cases}
use Prim.Native.Nat.{ℕ, zero, suc, ◌+◌, ◌*◌, ◌-◌, ◌/◌, ◌%◌, ◌^◌, ◌≤◌, ◌<◌}
use native.Mathlib.Nat.{div-eq_of_lt, div-eq_of_lt-le, lt_of_lt_of_le, mod-lt, pow-suc, zero-add}
use native.Mathlib.Decide.{ℕ_discrete}
use native.Mathlib.Omega.{arith}
use mathlib.Core.List.{List}
use mathlib.Core.Bool.{Bool, true, false, not, not-not}
use lib.Dec.{eqb}
use lib.Pow.{field, mod-mod-pow, pow-add, pow_mono, pow_pos, shl-shr}
use lib.Count.{count_leading_zeros, leading_length}
use lib.ListN.{get_or, replicate, get_or-replicate}
use borrow.Author.Tests.{eq-eqb, ne_eqb, eqb-true, eqb-false}
use Rattle.plane.specs.Sums.{one}
use Rattle.plane.specs.Paint.{bit, bit_in, pack}
use Rattle.plane.proofs.Tests.{by-lt}
use Rattle.plane.proofs.BitLaws.{bit-pack, pack-bits, same_bits}
use Rattle.plane.proofs.PaintLaws.{Bytes, cell, zero_bits}
use Rattle.format.specs.Bytes.{u32_at, u64_at}
use Rattle.fields.proofs.Words.{u64-bytes}
use Rattle.runs.specs.Run.{Run, full, full_word, differing}
use Rattle.runs.proofs.Runs.{run-empty, run-cut, run-stops, run_on}

-- ---- a byte's bits that differ

one-not : (b : Bool) → one b + one (not b) ≡ 1
one-not true = refl
one-not false = refl

pack-not : (f : ℕ → Bool) → 255 - pack f ≡ pack (λ i. not (f i))
unfolding pack
pack-not f =
    omega (arith, one-not (f 0), one-not (f 1), one-not (f 2), one-not (f 3), one-not (f 4), one-not (f 5), one-not (f 6), one-not (f 7))

bit_not : (x : ℕ) → x < 256 → (i : ℕ) → i < 8 → bit_in (255 - x) i ≡ not (bit_in x i)
bit_not x h i l = ap (λ (y : ℕ). bit_in (255 - y) i) (pack-bits x h) ∙ ap (λ (y : ℕ). bit_in y i) (pack-not (bit_in x)) ∙ bit-pack _ i l

not-zero : (b v : Bool) → not b ≡ v → b ≡ not v
not-zero b v e = sym (not-not b) ∙ ap not e

run-differing : (x : ℕ) → x < 256 → (v : Bool) (a r : ℕ) → Run (bit_in (differing x v)) a 8 false r → Run (bit_in x) a 8 v r
run-differing x h false a r o = o
run-differing x h true a r o = record {
  start = o.start;
  end = o.end;
  same = λ i b c. not-zero (bit_in x i) false (sym (bit_not x h i (omega (arith, o.end))) ∙ o.same i b c);
  stops = λ l. not-zero (bit_in x r) true (sym (bit_not x h r l) ∙ o.stops l);
}

differing-lt : (x : ℕ) → x < 256 → (v : Bool) → differing x v < 256
differing-lt x h true = omega arith
differing-lt x h false = h

-- ---- the first one of a byte's last bits

-- the divisor that leaves the bits from number a on
last-bits : (a : ℕ) → a < 8 → 256 / 2 ^ a ≡ 2 ^ (8 - a)
last-bits a h = ap (λ (y : ℕ). y / 2 ^ a) (ap (λ (k : ℕ). 2 ^ k) {x = 8} {y = (8 - a) + a} (omega arith) ∙ pow-add 2 (8 - a) a) ∙ shl-shr (2 ^ (8 - a)) a

-- it leaves them as they are
kept : (y a i : ℕ) → a ≤ i → i < 8 → bit_in (y % 2 ^ (8 - a)) i ≡ bit_in y i
unfolding bit_in
kept y a i h l =
    ap (λ (x : ℕ). eqb x 1)
    (ap (λ (k : ℕ). y % 2 ^ k / 2 ^ (7 - i) % 2) {x = 8 - a} {y = (i + 1 - a) + (7 - i)} (omega arith)
    ∙ ap (λ (x : ℕ). x % 2) (field y (i + 1 - a) (7 - i))
    ∙ ap (λ (k : ℕ). y / 2 ^ (7 - i) % 2 ^ k % 2) {x = i + 1 - a} {y = (i - a) + 1} (omega arith)
    ∙ mod-mod-pow (y / 2 ^ (7 - i)) (i - a) 1)

-- the leading zeros of a number end at its first one
zeros-end : (z : ℕ) → z < 256 → (i : ℕ) → i < count_leading_zeros 8 z → bit_in z i ≡ false
unfolding bit_in
zeros-end z h i l =
    let t = leading_length 8 z h in
    ap (λ (x : ℕ). eqb (x % 2) 1) (div-eq_of_lt (lt_of_lt_of_le t.2 (pow_mono {i = t.0} {j = 7 - i} (omega arith))))

ones-start : (z : ℕ) → z < 256 → count_leading_zeros 8 z < 8 → bit_in z (count_leading_zeros 8 z) ≡ true
unfolding bit_in
ones-start z h l =
    let t = leading_length 8 z h in
    let e : 7 - count_leading_zeros 8 z ≡ t.0 - 1 = omega arith in
    let p : 2 ^ t.0 ≡ 2 ^ (t.0 - 1) * 2 = ap (λ (k : ℕ). 2 ^ k) {x = t.0} {y = suc (t.0 - 1)} (omega arith) ∙ pow-suc 2 (t.0 - 1) in
    ap (λ (x : ℕ). eqb (x % 2) 1)
    (ap (λ (k : ℕ). z / 2 ^ k) e ∙ div-eq_of_lt-le {k = 1} (2 ^ (t.0 - 1)) (omega arith) (omega arith))

-- the leading zeros of what is left end at the first one from number a on
run-zeros : (y : ℕ) → y < 256 → (a : ℕ) → a < 8 → Run (bit_in y) a 8 false (count_leading_zeros 8 (y % 2 ^ (8 - a)))
run-zeros y h a l =
    let z = y % 2 ^ (8 - a) in
    let under : z < 2 ^ (8 - a) = mod-lt y (pow_pos (8 - a)) in
    let small : z < 256 = lt_of_lt_of_le under (pow_mono {i = 8 - a} {j = 8} (omega arith)) in
    let t = leading_length 8 z small in
    let begins : a ≤ count_leading_zeros 8 z =
    by-lt (8 - a) t.0
    (λ c. let p : 2 ^ (8 - a) * 2 ≤ 2 ^ t.0 = rw pow-suc at (pow_mono {i = suc (8 - a)} {j = t.0} c) in absurd (omega (arith, t.3, under)))
    (λ c. omega (arith, t.1)) in
    record {
      start = begins;
      end = omega (arith, t.1);
      same = λ i b c. sym (kept y a i b (omega (arith, t.1))) ∙ zeros-end z small i c;
      stops = λ c. sym (kept y a _ begins c) ∙ ones-start z small c;
    }

-- what is left of the bits that differ: its leading zeros end at the first such bit from number a on
pub rest-pos : (a : ℕ) → a < 8 → 0 < 256 / 2 ^ a
rest-pos a l = rw (last-bits a l) (pow_pos (8 - a))

pub rest_lt : (y a : ℕ) → a < 8 → y % (256 / 2 ^ a) < 256
rest_lt y a l = rw (last-bits a l) (lt_of_lt_of_le (mod-lt y (pow_pos (8 - a))) (pow_mono {i = 8 - a} {j = 8} (omega arith)))

pub run-rest : (x : ℕ) → x < 256 → (v : Bool) (a : ℕ) → a < 8 → (y : ℕ) → y ≡ differing x v → Run (bit_in x) a 8 v (count_leading_zeros 8 (y % (256 / 2 ^ a)))
run-rest x h v a l y e = rw (last-bits a l, e) (run-differing x h v a _ (run-zeros (differing x v) (differing-lt x h v) a l))

-- ---- bytes whose bits are all v

full-bits : (v : Bool) (i : ℕ) → i < 8 → bit_in (full v) i ≡ v
unfolding pack
full-bits true i h = bit-pack (λ _. true) i h
full-bits false i h = zero_bits i

full-lt : (v : Bool) → full v < 256
full-lt true = omega arith
full-lt false = omega arith

-- a byte that is not such a byte has another bit
not_full : (x : ℕ) → x < 256 → (v : Bool) (r : ℕ) → eqb x (full v) ≡ false → Run (bit_in x) 0 8 v r → r < 8
not_full x h v r n o =
    by-lt r 8 (λ l. l)
    (λ l. absurd (eqb-false x (full v) n (same_bits x (full v) h (full-lt v) (λ i c. o.same i (omega arith) (omega arith) ∙ sym (full-bits v i c)))))

-- eight such bytes are such a word, and so it has no others
full-bytes : (n : ℕ) (v : Bool) → Bytes (replicate n (full v))
full-bytes zero v i = omega arith
full-bytes (suc n) v zero = full-lt v
full-bytes (suc n) v (suc i) = full-bytes n v i

pub low_byte : (v : Bool) → full_word v % 256 ≡ full v
low_byte true = refl
low_byte false = refl

full-word : (v : Bool) → u64_at (replicate 8 (full v)) 0 ≡ full_word v
unfolding u32_at u64_at
full-word true = refl
full-word false = refl

word_bytes : (m : List ℕ) → Bytes m → (v : Bool) (k : ℕ) → u64_at m k ≡ full_word v → (i : ℕ) → k ≤ i → i < k + 8 → get_or m i 0 ≡ full v
word_bytes m h v k e i a b =
    ap (λ (j : ℕ). get_or m j 0) {x = i} {y = k + (i - k)} (omega arith)
    ∙ u64-bytes m (replicate 8 (full v)) h (full-bytes 8 v) k 0 (e ∙ sym (full-word v)) (i - k) (omega arith)
    ∙ ap (λ (j : ℕ). get_or (replicate 8 (full v)) j 0) (zero-add (i - k))
    ∙ get_or-replicate 8 (i - k) (full v) 0 (omega arith)

-- ---- a loop over such bytes

-- those from byte k on and before i are such bytes
abbrev pub Full : List ℕ → Bool → ℕ → ℕ → Type 0
Full m v k i = (j : ℕ) → k ≤ j → j < i → get_or m j 0 ≡ full v

pub full-none : (m : List ℕ) (v : Bool) (k : ℕ) → Full m v k k
full-none m v k j a b = absurd (omega arith)

-- and then eight, or one
pub full-word-more : (m : List ℕ) → Bytes m → (v : Bool) {k i : ℕ} → Full m v k i → u64_at m i ≡ full_word v → Full m v k (i + 8)
full-word-more m h v {k} {i} f e j a b = by-lt j i (λ l. f j a l) (λ l. word_bytes m h v i e j (omega arith) b)

pub full-byte-more : (m : List ℕ) (v : Bool) {k i : ℕ} → Full m v k i → get_or m i 0 ≡ full v → Full m v k (i + 1)
full-byte-more m v {k} {i} f e j a b = by_cases (ℕ_discrete j i) (λ z. ap (λ (n : ℕ). get_or m n 0) z ∙ e) (λ n. f j a (omega arith))

-- their run ends at another byte, or at the end
module _ (m : List ℕ) (v : Bool) {k e i : ℕ} (a : k ≤ i) (b : i ≤ e) (f : Full m v k i) where
  each : (j : ℕ) → k ≤ j → j < i → eqb (get_or m j 0) (full v) ≡ true
  each j h l = eq-eqb (get_or m j 0) (full v) (f j h l)

  pub full-stop : (byte : ℕ) → byte ≡ full v → (get_or m i 0 ≡ byte → ⊥) → Run (λ j. eqb (get_or m j 0) (full v)) k e true i
  full-stop byte z n = record { start = a; end = b; same = each; stops = λ _. ne_eqb (get_or m i 0) (full v) (λ q. n (q ∙ sym z)) }

  pub full-end : e ≤ i → Run (λ j. eqb (get_or m j 0) (full v)) k e true i
  full-end l = record { start = a; end = b; same = each; stops = λ h. absurd (omega arith) }

-- ---- from bytes to the map's bits

-- a run within byte k
pub run_at : (m : List ℕ) (k : ℕ) {a s : ℕ} {v : Bool} {r : ℕ} → s ≡ 8 * k + a → Run (bit_in (get_or m k 0)) a 8 v r → Run (bit m) s (8 * k + 8) v (8 * k + r)
run_at m k {r = r} e o = record {
  start = omega arith;
  end = omega arith;
  same = λ i b c.
      ap (bit m) {x = i} {y = 8 * k + (i - 8 * k)} (omega arith) ∙ sym (cell k (i - 8 * k) (omega arith) m)
      ∙ o.same (i - 8 * k) (omega arith) (omega arith);
  stops = λ c. sym (cell k r (omega arith) m) ∙ o.stops (omega arith);
}

-- bytes that are full
bytes_run : (m : List ℕ) (k j : ℕ) (v : Bool) → ((i : ℕ) → k ≤ i → i < j → eqb (get_or m i 0) (full v) ≡ true) → (p : ℕ) → 8 * k ≤ p → p < 8 * j → bit m p ≡ v
unfolding bit
bytes_run m k j v h p a b =
    ap (λ (x : ℕ). bit_in x (p % 8)) (eqb-true (get_or m (p / 8) 0) (full v) (h (p / 8) (omega arith) (omega arith))) ∙ full-bits v (p % 8) (omega arith)

-- full bytes, and then a run in the byte behind them: e is where the bits end
module _ (m : List ℕ) {k j : ℕ} (e : ℕ) (v : Bool) (o : Run (λ i. eqb (get_or m i 0) (full v)) k (e / 8) true j) where
  passed : (p : ℕ) → 8 * k ≤ p → p < 8 * j → bit m p ≡ v
  passed = bytes_run m k j v o.same

  pub run-bytes : 8 * j ≡ e → Run (bit m) (8 * k) e v e
  run-bytes z = run_on passed (omega arith) (run-empty z)

  module _ {r : ℕ} (q : Run (bit_in (get_or m j 0)) 0 8 v r) where
    pub run-over : e - 8 * j ≤ r → Run (bit m) (8 * k) e v e
    run-over l = run_on passed (omega arith) (run-cut (run_at m j (omega arith) q) (omega arith) (omega arith))

    pub run-in-last : Bytes m → r < e - 8 * j → Run (bit m) (8 * k) e v (8 * j + r)
    run-in-last h l =
        let before : r < 8 = by-lt r 8 (λ b. b) (λ b. not_full (get_or m j 0) (h j) v r (o.stops (omega arith)) q) in
        run_on passed (omega (arith, o.start)) (run-stops (run_at m j (omega arith) q) (omega arith) (omega arith))

-- a run from bit a of byte k on, through the byte's end
pub run-through : (m : List ℕ) (k : ℕ) {a s e : ℕ} {v : Bool} {r r' : ℕ} → s ≡ 8 * k + a → Run (bit_in (get_or m k 0)) a 8 v r → 8 ≤ r
    → Run (bit m) (8 * (k + 1)) e v r' → Run (bit m) s e v r'
run-through m k z o l q =
    run_on (λ p b c. (run_at m k z o).same p b (omega arith)) (omega arith) q
