-- The dimension with layers of an entry that is not refused: its letter, its size, and that it is the dimension of its letter. Assumes nothing.
use Prim.Native.Nat.{ℕ, ◌≤◌, ◌<◌}
use mathlib.Core.Path.{◌≡◌, refl}
use mathlib.Core.List.{List}
use mathlib.Core.Bool.{true, false}
use native.Mathlib.Omega.{arith}
use lib.Dec.{eqb}
use borrow.Author.Tests.{eq-eqb, eqb-false}
use Rattle.format.specs.Bytes.{any_below}
use Rattle.format.specs.Entry.{dimension_count, letter, size, stored, dimension_place, has_letter, letter_index, letter_place}
use Rattle.format.specs.Entry.{is_plane, most_size, dimension_bad, repeats, dimensions_bad, is_layered, layers_index, layers_place}
use Rattle.format.proofs.Below.{by_bool, none, any_found, any_none, least-found}
use Rattle.entries.proofs.EntryLaws.{Sized, Stacked, layers-placed, dimension-ok, other-ok}

-- a letter that is not X or Y
pub not-plane : (x : ℕ) → is_plane x ≡ false → (x ≡ 88 → ⊥) × (x ≡ 89 → ⊥)
unfolding is_plane
not-plane x h = (eqb-false x 88 (none _ h 0), eqb-false x 89 (none _ h 1))

-- a letter that may have several layers is not M or S, and has at most 1,024
pub most-layers : (x n : ℕ) → n ≤ most_size x → 1 < n → (n ≤ 1024) × (x ≡ 77 → ⊥) × (x ≡ 83 → ⊥)
unfolding most_size
most-layers x n h s =
    by_bool (eqb x 77)
    (λ m. absurd (let z = rw m at h in omega (arith, z)))
    (λ m.
    by_bool (eqb x 83)
    (λ k. absurd (let z = rw (m, k) at h in omega (arith, z)))
    (λ k. let z = rw (m, k) at h in (omega (arith, z), eqb-false x 77 m, eqb-false x 83 k)))

-- dimension k has its own letter, and where that does not repeat none before it has
own-letter : (bs : List ℕ) (e k : ℕ) → has_letter bs e (letter bs (dimension_place e k)) k ≡ true
unfolding has_letter
own-letter bs e k = eq-eqb (letter bs (dimension_place e k)) (letter bs (dimension_place e k)) refl

none_before : (bs : List ℕ) (e k : ℕ) → repeats bs e k ≡ false → any_below k (has_letter bs e (letter bs (dimension_place e k))) ≡ false
unfolding repeats
none_before bs e k a = a

pub record Layered (bs : List ℕ) (e : ℕ) : Type 0 where
  pub placed : Stacked bs e
  pub sized : Sized bs (layers_place bs e)
  pub stored_is : stored bs (layers_place bs e) ≡ size bs (layers_place bs e)
  pub few : size bs (layers_place bs e) ≤ 1024
  pub no-x : letter bs (layers_place bs e) ≡ 88 → ⊥
  pub no-y : letter bs (layers_place bs e) ≡ 89 → ⊥
  pub no-m : letter bs (layers_place bs e) ≡ 77 → ⊥
  pub no-s : letter bs (layers_place bs e) ≡ 83 → ⊥
  -- it is the dimension of its letter
  pub has : any_below (dimension_count bs e) (has_letter bs e (letter bs (layers_place bs e))) ≡ true
  pub place_is : letter_place bs e (letter bs (layers_place bs e)) ≡ layers_place bs e

pub layers-ok : (bs : List ℕ) (e : ℕ) → dimensions_bad bs e ≡ false → is_layered bs e ≡ true → Layered bs e
unfolding dimensions_bad layers_place letter_place letter_index
layers-ok bs e h l =
    let p = layers-placed bs e l in
    let k = layers_index bs e in
    let bad = any_none (dimension_count bs e) k (λ j. dimension_bad bs (dimension_place e j)) (none _ h 0) p.index in
    let other = other-ok bs (dimension_place e k) bad p.other in
    let most = most-layers (letter bs (dimension_place e k)) (size bs (dimension_place e k)) other.0 p.several in
    let plane = not-plane (letter bs (dimension_place e k)) p.other in
    let apart = any_none (dimension_count bs e) k (repeats bs e) (none _ h 1) p.index in
    record {
      placed = p;
      sized = dimension-ok bs (dimension_place e k) bad;
      stored_is = other.1;
      few = most.0;
      no-x = plane.0;
      no-y = plane.1;
      no-m = most.1;
      no-s = most.2;
      has = any_found (dimension_count bs e) k _ p.index (own-letter bs e k);
      place_is = rw (least-found (dimension_count bs e) k (has_letter bs e (letter bs (dimension_place e k))) p.index (none_before bs e k apart) (own-letter bs e k));
    }
