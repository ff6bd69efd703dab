-- The order by rank, and the topmost tile.
use mathlib.Core.Path.{◌≡◌, refl, sym, ap, ◌∙◌}
use mathlib.Core.Logic.{◌⊎◌, inl, inr, ⊎_elim}
use Prim.Native.Nat.{ℕ, zero, suc, ◌≤◌, ◌<◌}
use native.Mathlib.Omega.{arith}
use mathlib.Core.List.{List, [], ◌∷◌, reverse_aux, reverse}
use mathlib.Core.List.Memᴰ
use mathlib.Core.List.{Memᴰ}
use mathlib.Core.List.Permᴰ
use mathlib.Core.List.{Permᴰ}
use mathlib.Core.Bool.{true, false, true≢false}
use lib.ListN.{length, get_or}
use borrow.Author.Tests.{leb-true, leb-false}
use Rattle.plane.specs.Tiles.{Tile, Ranked, covered, sum_over}
use Rattle.plane.specs.Turns.{Kind, plain, quick, below, insert, bottom_first, order, no_tile}
use Rattle.plane.specs.Demand2.{Top, None}
use Rattle.plane.proofs.Tests.{cond-case, by_bool, by-lt}
use Rattle.plane.proofs.RunLaws.{last_byte, first_byte}

-- ---- the same tiles, in another order

module _ {A : Type 0} where
  perm-mem : {x : A} {l l' : List A} → Permᴰ l l' → Memᴰ x l → Memᴰ x l'
  perm-mem Permᴰ.nil m = m
  perm-mem (Permᴰ.cons e d) (Memᴰ.head q) = Memᴰ.head (q ∙ e)
  perm-mem (Permᴰ.cons e d) (Memᴰ.tail m) = Memᴰ.tail (perm-mem d m)
  perm-mem (Permᴰ.swap e f) (Memᴰ.head q) = Memᴰ.tail (Memᴰ.head (q ∙ e))
  perm-mem (Permᴰ.swap e f) (Memᴰ.tail (Memᴰ.head q)) = Memᴰ.head (q ∙ f)
  perm-mem (Permᴰ.swap e f) (Memᴰ.tail (Memᴰ.tail m)) = Memᴰ.tail (Memᴰ.tail m)
  perm-mem (Permᴰ.trans d e) m = perm-mem e (perm-mem d m)

  perm-length : {l l' : List A} → Permᴰ l l' → length l ≡ length l'
  perm-length Permᴰ.nil = refl
  perm-length (Permᴰ.cons e d) = ap suc (perm-length d)
  perm-length (Permᴰ.swap e f) = refl
  perm-length (Permᴰ.trans d e) = perm-length d ∙ perm-length e

insert-perm : (t : Tile) (ss : List Tile) → Permᴰ (insert t ss) (t ∷ ss)
unfolding insert
insert-perm t [] = Permᴰ.refl (t ∷ [])
insert-perm t (s ∷ ss) =
    cond-case (λ (l : List Tile). Permᴰ l (t ∷ s ∷ ss)) (below t s) (λ _. Permᴰ.refl (t ∷ s ∷ ss))
    (λ _. Permᴰ.trans (Permᴰ.cons refl (insert-perm t ss)) (Permᴰ.swap refl refl))

sort-perm : (ts : List Tile) → Permᴰ (bottom_first ts) ts
unfolding bottom_first
sort-perm [] = Permᴰ.nil
sort-perm (t ∷ ts) = Permᴰ.trans (insert-perm t (bottom_first ts)) (Permᴰ.cons refl (sort-perm ts))

order-perm : (k : Kind) (ts : List Tile) → Permᴰ (order k ts) ts
order-perm plain ts = sort-perm ts
order-perm quick ts = Permᴰ.trans (Permᴰ.reverse (bottom_first ts)) (sort-perm ts)

pub order_from : (k : Kind) {x : Tile} (ts : List Tile) → Memᴰ x (order k ts) → Memᴰ x ts
order_from k ts m = perm-mem (order-perm k ts) m

pub order-to : (k : Kind) {x : Tile} (ts : List Tile) → Memᴰ x ts → Memᴰ x (order k ts)
order-to k ts m = perm-mem (Permᴰ.symm (order-perm k ts)) m

pub order-length : (k : Kind) (ts : List Tile) → length (order k ts) ≡ length ts
order-length k ts = perm-length (order-perm k ts)

-- a sum over the tiles is one over their order
perm-sum : (f : Tile → ℕ) {ts us : List Tile} → Permᴰ ts us → sum_over ts f ≡ sum_over us f
unfolding sum_over
perm-sum f Permᴰ.nil = refl
perm-sum f (Permᴰ.cons e d) = omega (arith, ap f e, perm-sum f d)
perm-sum f (Permᴰ.swap e q) = omega (arith, ap f e, ap f q)
perm-sum f (Permᴰ.trans d e) = perm-sum f d ∙ perm-sum f e

pub sort-sum : (f : Tile → ℕ) (ts : List Tile) → sum_over (bottom_first ts) f ≡ sum_over ts f
sort-sum f ts = perm-sum f (sort-perm ts)

-- ---- by rank

-- each tile's rank stands so to those of the later ones
abbrev pub Sorted : (ℕ → ℕ → Type 0) → List Tile → Type 0
Sorted R [] = Unit {0}
Sorted R (t ∷ ts) = ((s : Tile) → Memᴰ s ts → R t.rank s.rank) × Sorted R ts

abbrev pub Rising : List Tile → Type 0
Rising = Sorted (λ a c. a < c)

abbrev pub Falling : List Tile → Type 0
Falling = Sorted (λ a c. c < a)

insert-rising : (t : Tile) (ss : List Tile) → ((s : Tile) → Memᴰ s ss → t.rank ≡ s.rank → ⊥) → Rising ss → Rising (insert t ss)
unfolding insert below
insert-rising t [] d r = (λ s m. absurd (Memᴰ.not-nil m), tt)
insert-rising t (s ∷ ss) d r =
    cond-case (λ (l : List Tile). Rising l) (below t s)
    (λ e.
    let n = d s (Memᴰ.head refl) in
    let lt : t.rank < s.rank = omega (arith, leb-true t.rank s.rank e, n) in
    (λ x m. ⊎_elim (λ (q : x ≡ s). rw q lt) (λ m. omega (arith, leb-true t.rank s.rank e, r.0 x m)) (Memᴰ.cases_cons m), r))
    (λ e. (
      λ x m. ⊎_elim (λ (q : x ≡ t). rw q (leb-false _ _ e)) (λ m. r.0 x m) (Memᴰ.cases_cons (perm-mem (insert-perm t ss) m)),
      insert-rising t ss (λ x m. d x (Memᴰ.tail m)) r.1,
    ))

pub sort-rising : (ts : List Tile) → Ranked ts → Rising (bottom_first ts)
unfolding bottom_first
sort-rising [] r = tt
sort-rising (t ∷ ts) r = insert-rising t (bottom_first ts) (λ s m. r.0 s (order_from plain ts m)) (sort-rising ts r.1)

-- rising tiles in reverse, in front of falling ones that lie below them
reverse_onto : (ts us : List Tile) → Rising ts → Falling us → ((t s : Tile) → Memᴰ t ts → Memᴰ s us → s.rank < t.rank) → Falling (reverse_aux ts us)
reverse_onto [] us r f h = f
reverse_onto (t ∷ ts) us r f h =
    reverse_onto ts (t ∷ us) r.1 (λ s m. h t s (Memᴰ.head refl) m, f)
    (λ x s m n. ⊎_elim (λ (q : s ≡ t). rw q (r.0 x m)) (λ n. h x s (Memᴰ.tail m) n) (Memᴰ.cases_cons n))

pub reverse-falling : (ts : List Tile) → Rising ts → Falling (reverse ts)
reverse-falling ts r = reverse_onto ts [] r tt (λ t s m n. absurd (Memᴰ.not-nil n))

-- ---- by number

mem-at : (l : List Tile) (i : ℕ) → i < length l → Memᴰ (get_or l i no_tile) l
mem-at [] i h = absurd (omega arith)
mem-at (t ∷ ts) zero h = Memᴰ.head refl
mem-at (t ∷ ts) (suc i) h = Memᴰ.tail (mem-at ts i (omega arith))

pub sorted-at : (R : ℕ → ℕ → Type 0) (l : List Tile) → Sorted R l → (i j : ℕ) → i < j → j < length l → R (get_or l i no_tile).rank (get_or l j no_tile).rank
sorted-at R [] r i j h k = absurd (omega arith)
sorted-at R (t ∷ ts) r i zero h k = absurd (omega arith)
sorted-at R (t ∷ ts) r zero (suc j) h k = r.0 (get_or ts j no_tile) (mem-at ts j (omega arith))
sorted-at R (t ∷ ts) r (suc i) (suc j) h k = sorted-at R ts r.1 i j (omega arith) (omega arith)

-- ---- the topmost tile

module _ (u v : ℕ) where
  pub covered-mem : {t : Tile} (ts : List Tile) → Memᴰ t ts → t.gives u v ≡ true → covered ts u v ≡ true
  unfolding covered
  covered-mem [] m g = absurd (Memᴰ.not-nil m)
  covered-mem {t} (s ∷ ts) m g =
      by_bool (s.gives u v) (λ e. rw e) (λ e. rw e
      (⊎_elim (λ (q : t ≡ s). absurd (true≢false (sym g ∙ ap (λ (z : Tile). z.gives u v) q ∙ e))) (λ m. covered-mem ts m g) (Memᴰ.cases_cons m)))

  pub covered_none : (ts : List Tile) → None ts u v → covered ts u v ≡ false
  unfolding covered
  covered_none [] n = refl
  covered_none (s ∷ ts) n = rw (n s (Memᴰ.head refl)) (covered_none ts (λ x m. n x (Memᴰ.tail m)))

  abbrev TopOrNone : List Tile → Type 0
  TopOrNone ts = ((t : Tile) × Top ts u v t) ⊎ None ts u v

  pub top-or-none : (ts : List Tile) → ((t : Tile) × Top ts u v t) ⊎ None ts u v
  top-or-none [] = inr (λ s m. absurd (Memᴰ.not-nil m))
  top-or-none (t ∷ ts) = by_bool (t.gives u v) (λ g. gives g (top-or-none ts)) (λ g. not_gives g (top-or-none ts))
    where
      -- what holds of t and of the others
      all : (P : Tile → Type 0) → P t → ((s : Tile) → Memᴰ s ts → P s) → (s : Tile) → Memᴰ s (t ∷ ts) → P s
      all P p h s m = ⊎_elim (λ (q : s ≡ t). rw q p) (λ m. h s m) (Memᴰ.cases_cons m)

      keep : t.gives u v ≡ true → ((s : Tile) → Memᴰ s ts → s.gives u v ≡ true → s.rank ≤ t.rank) → TopOrNone (t ∷ ts)
      keep g h = inl (t, record { chosen = Memᴰ.head refl; gives = g; highest = all (λ s. s.gives u v ≡ true → s.rank ≤ t.rank) (λ e. omega arith) h })

      pass : (s : Tile) → Top ts u v s → (t.gives u v ≡ true → t.rank ≤ s.rank) → TopOrNone (t ∷ ts)
      pass s o h =
          inl (s, record { chosen = Memᴰ.tail o.chosen; gives = o.gives; highest = all (λ x. x.gives u v ≡ true → x.rank ≤ s.rank) h o.highest })

      gives : t.gives u v ≡ true → TopOrNone ts → TopOrNone (t ∷ ts)
      gives g (inl (s, o)) = by-lt s.rank t.rank (λ l. keep g (λ x m q. omega (arith, o.highest x m q))) (λ l. pass s o (λ _. l))
      gives g (inr n) = keep g (λ s m e. absurd (true≢false (sym e ∙ n s m)))

      not_gives : t.gives u v ≡ false → TopOrNone ts → TopOrNone (t ∷ ts)
      not_gives g (inl (s, o)) = pass s o (λ e. absurd (true≢false (sym e ∙ g)))
      not_gives g (inr n) = inr (all (λ s. s.gives u v ≡ false) g n)

  -- the topmost of some tiles is that of those behind the first, where it is one of them
  top-later : {s t : Tile} {ts : List Tile} → Top (s ∷ ts) u v t → Memᴰ t ts → Top ts u v t
  top-later o m = record { chosen = m; gives = o.gives; highest = λ x n e. o.highest x (Memᴰ.tail n) e }

  -- the topmost is the last of a rising list, and the first of a falling one
  pub last-top : (j : ℕ) (ts : List Tile) → Rising ts → (t : Tile) → Top ts u v t → last_byte ts u v j ≡ t.byte u v j
  unfolding last_byte
  last-top j [] r t o = absurd (Memᴰ.not-nil o.chosen)
  last-top j (s ∷ ts) r t o =
      ⊎_elim (λ q. rw (covered_none ts (above q), q))
      (λ (m : Memᴰ t ts). rw (covered-mem ts m o.gives) (last-top j ts r.1 t (top-later o m)))
      (Memᴰ.cases_cons o.chosen)
    where
      above : t ≡ s → None ts u v
      above q x m =
          by_bool (x.gives u v)
          (λ g. absurd (omega (arith, r.0 x m, o.highest x (Memᴰ.tail m) g, ap (λ (z : Tile). z.rank) q)))
          (λ g. g)

  pub first-top : (j : ℕ) (ts : List Tile) → Falling ts → (t : Tile) → Top ts u v t → first_byte ts u v j ≡ t.byte u v j
  unfolding first_byte
  first-top j [] r t o = absurd (Memᴰ.not-nil o.chosen)
  first-top j (s ∷ ts) r t o =
      ⊎_elim (λ q. rw (← q, o.gives))
      (λ m. by_bool (s.gives u v)
      (λ g. absurd (omega (arith, r.0 t m, o.highest s (Memᴰ.head refl) g)))
      (λ g. rw g (first-top j ts r.1 t (top-later o m))))
      (Memᴰ.cases_cons o.chosen)

  -- and of the order's tiles it is that of the tiles
  pub order-top : (k : Kind) (ts : List Tile) (t : Tile) → Top ts u v t → Top (order k ts) u v t
  order-top k ts t o = record { chosen = order-to k ts o.chosen; gives = o.gives; highest = λ s m e. o.highest s (order_from k ts m) e }

  pub order-none : (k : Kind) (ts : List Tile) → None ts u v → None (order k ts) u v
  order-none k ts n s m = n s (order_from k ts m)
