-- A range of a bit string marked: one byte's part of it, and two ranges that meet.
use mathlib.Core.Path.{◌≡◌, sym, ap, ap₂, ◌∙◌}
use mathlib.Core.Logic.{by_cases}
use Prim.Native.Nat.{ℕ, suc, ◌+◌, ◌*◌, ◌/◌, ◌%◌, ◌^◌, ◌≤◌, ◌<◌}
use native.Mathlib.Decide.{ℕ_discrete}
use native.Mathlib.Omega.{arith}
use mathlib.Core.List.{List}
use mathlib.Core.Bool.{Bool, false, ◌&&◌, ◌||◌, and-false, and_comm, or_comm}
use lib.Bits.{bit_or, or_lt}
use lib.Dec.{leb, ltb}
use lib.ListN.{length, get_or, set, length-set}
use lib.Seq.{get_or-set_same, get_or-set_other}
use borrow.Author.Tests.{lt-ltb, le-ltb, le-leb, lt-leb}
use Rattle.plane.specs.Paint.{bit_in, bit, pack, mark}
use Rattle.plane.proofs.Tests.{by-lt, leb-same}
use Rattle.plane.proofs.BitLaws.{bit-pack}
use Rattle.plane.proofs.PaintLaws.{Bytes, cell, same_map, mark-noop, mark-bit, mark-bytes, mark-length}
use Rattle.bits.proofs.Bitwise.{or-bit, one-packs}

-- ---- one byte stored

-- storing v in byte k marks, where v has the bits that marking gives that byte and nothing else is to be marked
stored : (m : List ℕ) → Bytes m → (n : ℕ) (on : ℕ → Bool) (k v : ℕ) → k < length m → v < 256
    → ((i : ℕ) → i < 8 → bit_in v i ≡ ((ltb (8 * k + i) n && on (8 * k + i)) || bit m (8 * k + i)))
    → ((q : ℕ) → (q / 8 ≡ k → ⊥) → (ltb q n && on q) ≡ false)
    → set m k v ≡ mark n on m
unfolding bit
stored m h n on k v l hv inside outside =
    same_map (set m k v) (mark n on m) (length-set m k v ∙ sym (mark-length n on m)) byte (mark-bytes n on m h)
    (λ q b. same q ∙ sym (mark-bit n on m q (rw (← length-set m k v) b)))
  where
    byte : (c : ℕ) → get_or (set m k v) c 0 < 256
    byte c = by_cases (ℕ_discrete c k) (λ e. rw (e, get_or-set_same m k v 0 l) hv) (λ e. rw (get_or-set_other m k c v 0 e) (h c))

    same : (q : ℕ) → bit (set m k v) q ≡ ((ltb q n && on q) || bit m q)
    same q =
        by_cases (ℕ_discrete (q / 8) k)
        (λ e. let f : 8 * k + q % 8 ≡ q = omega arith in rw (e, get_or-set_same m k v 0 l, inside (q % 8) (omega arith), f, e))
        (λ e. rw (get_or-set_other m k (q / 8) v 0 e, outside q e))

-- a byte `|` v
pub or-marks : (m : List ℕ) → Bytes m → (k v : ℕ) → k < length m → v < 256
    → set m k (bit_or (get_or m k 0) v) ≡ mark (8 * k + 8) (λ q. leb (8 * k) q && bit_in v (q % 8)) m
or-marks m h k v l hv =
    stored m h (8 * k + 8) _ k (bit_or (get_or m k 0) v) l (or_lt 8 (get_or m k 0) v (h k) hv)
    (λ i b. or-bit (get_or m k 0) v i ∙ or_comm (bit_in (get_or m k 0) i) (bit_in v i) ∙ ap₂ ◌||◌ (here i b) (cell k i b m))
    there
  where
    here : (i : ℕ) → i < 8 → bit_in v i ≡ (ltb (8 * k + i) (8 * k + 8) && (leb (8 * k) (8 * k + i) && bit_in v ((8 * k + i) % 8)))
    here i b = rw (lt-ltb (8 * k + i) (8 * k + 8) (omega arith), le-leb (8 * k) (8 * k + i) (omega arith)) (ap (bit_in v) (omega arith))

    there : (q : ℕ) → (q / 8 ≡ k → ⊥) → (ltb q (8 * k + 8) && (leb (8 * k) q && bit_in v (q % 8))) ≡ false
    there q e =
        by-lt q (8 * k + 8) (λ b. rw (lt-leb (8 * k) q (omega arith)) (and-false (ltb q (8 * k + 8)))) (λ b. rw (le-ltb q (8 * k + 8) b))

-- ---- ranges

pub marked-ext : (m : List ℕ) {a a' c c' : ℕ} → a ≡ a' → c ≡ c' → mark c (λ q. leb a q) m ≡ mark c' (λ q. leb a' q) m
marked-ext m e f = ap₂ (λ (z n : ℕ). mark n (λ q. leb z q) m) e f

module _ (m : List ℕ) (h : Bytes m) where
  -- the same bits marked
  mark-same : (n n' : ℕ) (on on' : ℕ → Bool) → ((q : ℕ) → (ltb q n && on q) ≡ (ltb q n' && on' q)) → mark n on m ≡ mark n' on' m
  mark-same n n' on on' e =
      same_map (mark n on m) (mark n' on' m) (mark-length n on m ∙ sym (mark-length n' on' m)) (mark-bytes n on m h) (mark-bytes n' on' m h)
      (λ q b. let l : q < 8 * length m = rw (← mark-length n on m) b in
      rw (mark-bit n on m q l, mark-bit n' on' m q l, e q))

  -- no bit
  pub marked-none : (a : ℕ) → mark a (λ q. leb a q) m ≡ m
  marked-none a = mark-noop a _ m (λ k _. h k) (λ q l. rw (lt-leb a q l))

  -- up to b, and then up to c
  range-add : (a b c : ℕ) → a ≤ b → b ≤ c → mark c (λ q. leb b q) (mark b (λ q. leb a q) m) ≡ mark c (λ q. leb a q) m
  range-add a b c ab bc =
      same_map (mark c _ (mark b _ m)) (mark c _ m) (mark-length c _ _ ∙ mark-length b _ m ∙ sym (mark-length c _ m))
      (mark-bytes c _ _ (mark-bytes b _ m h)) (mark-bytes c _ m h)
      (λ q x. let y : q < 8 * length (mark b (λ q. leb a q) m) = rw (← mark-length c (λ q. leb b q) (mark b (λ q. leb a q) m)) x in
      let z : q < 8 * length m = rw (← mark-length b (λ q. leb a q) m) y in
      rw (mark-bit c (λ q. leb b q) (mark b (λ q. leb a q) m) q y, mark-bit b (λ q. leb a q) m q z, mark-bit c (λ q. leb a q) m q z)
      (by-lt q b (λ l. rw (lt-ltb q c (omega arith), lt-leb b q l, lt-ltb q b l))
      (λ l. rw (le-leb b q l, le-ltb q b l, le-leb a q (omega arith)))))

  -- the same by equations: m' is marked up to b, and m'' is m' marked from there up to c
  pub range-then : {m' m'' : List ℕ} {a b b' c : ℕ} → a ≤ b → b ≡ b' → b' ≤ c → m' ≡ mark b (λ q. leb a q) m → m'' ≡ mark c (λ q. leb b' q) m'
      → m'' ≡ mark c (λ q. leb a q) m
  range-then {a = a} {b} {b'} {c} ab e bc g g' =
      g' ∙ ap₂ (λ (z : ℕ) (l : List ℕ). mark c (λ q. leb z q) l) (sym e) g ∙ range-add a b c ab (omega arith)

  -- the bits from number s up to number t of byte k
  pub range-part : (k s t : ℕ) → t ≤ 8 → (v : ℕ) → v ≡ pack (λ i. leb s i && ltb i t)
      → mark (8 * k + 8) (λ q. leb (8 * k) q && bit_in v (q % 8)) m ≡ mark (8 * k + t) (λ q. leb (8 * k + s) q) m
  range-part k s t l v e = mark-same (8 * k + 8) (8 * k + t) _ _ (λ q. rw (e, bit-pack _ (q % 8) (omega arith)) (same q))
    where
      same : (q : ℕ) → (ltb q (8 * k + 8) && (leb (8 * k) q && (leb s (q % 8) && ltb (q % 8) t))) ≡ (ltb q (8 * k + t) && leb (8 * k + s) q)
      same q =
          by-lt q (8 * k)
          (λ a. rw (lt-leb (8 * k) q a, lt-leb (8 * k + s) q (omega arith), and-false, and-false))
          (λ a. by-lt q (8 * k + 8)
          (λ b. rw (
            lt-ltb q (8 * k + 8) b,
            le-leb (8 * k) q a,
            leb-same s (q % 8) (8 * k + s) q (λ c. omega arith) (λ c. omega arith),
            leb-same (suc (q % 8)) t (suc q) (8 * k + t) (λ c. omega arith) (λ c. omega arith),
          ) (and_comm (leb (8 * k + s) q) (ltb q (8 * k + t))))
          (λ b. rw (le-ltb q (8 * k + 8) b, le-ltb q (8 * k + t) (omega arith))))

  -- one bit
  pub range-one : (p : ℕ) → mark (8 * (p / 8) + 8) (λ q. leb (8 * (p / 8)) q && bit_in (128 / 2 ^ (p % 8)) (q % 8)) m ≡ mark (p + 1) (λ q. leb p q) m
  range-one p = range-part (p / 8) (p % 8) (p % 8 + 1) (omega arith) _ (one-packs (p % 8) (omega arith)) ∙ marked-ext m (omega arith) (omega arith)
