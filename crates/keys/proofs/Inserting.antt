-- A key put in where the first keys that are not below it began, which have moved up by one. Assumes nothing.
use Prim.Native.Nat.{ℕ, ◌+◌, ◌-◌, ◌≤◌, ◌<◌}
use mathlib.Core.Path.{◌≡◌, sym, ap, ◌∙◌}
use mathlib.Core.List.{List, [], ◌∷◌, ◌++◌, append_assoc}
use mathlib.Core.Bool.{true, false}
use native.Mathlib.Omega.{arith}
use native.Mathlib.Nat.{eq-or-lt_of_le}
use mathlib.Core.Logic.{⊎_elim}
use lib.Dec.{ltb}
use lib.ListN.{length, get_or, take, drop, set}
use lib.Seq.{length-take-le, take-take, set_at, take_at, drop_at}
use borrow.Author.Tests.{ltb-true, ltb-false}
use Rattle.std.specs.List.{copy_within}
use Rattle.std.specs.List.Sorted.{IsPartitionPoint}
use Rattle.std.proofs.lemmas.List.{take_more}
use Rattle.std.proofs.lemmas.Slice.{between_is}
use Rattle.std.proofs.lemmas.Grind.{common_steps}
use Rattle.keys.specs.Keys.{insert_key, Rising, Inserted}
use Rattle.keys.proofs.KeyLaws.{length-insert, insert-at}

-- rising keys do not fall
pub not-falling : (l : List ℕ) → Rising l → (i j : ℕ) → i ≤ j → j < length l → get_or l i 0 ≤ get_or l j 0
not-falling l u i j h k = ⊎_elim (λ e. rw e (omega arith)) (λ g. omega (arith, u i j g k)) (eq-or-lt_of_le h)

module _ (n r i : ℕ) (before : List ℕ) (few : i ≤ n) (within : n < length before) where
  -- those from i on up by one, and the key at i
  shape : set (copy_within before i n (i + 1)) i r ≡ take i before ++ r ∷ (drop i (take n before) ++ drop (n + 1) before)
  shape =
      let a : List ℕ = take i before in
      let m : List ℕ = take (n - i) (drop i before) in
      let d : List ℕ = drop (n + 1) before in
      let e : i + 1 + (n - i) ≡ n + 1 = omega arith in
      let f : take (i + 1) before ≡ a ++ get_or before i 0 ∷ [] = take_more before i 0 (omega arith) in
      let g : copy_within before i n (i + 1) ≡ a ++ get_or before i 0 ∷ (m ++ d) = rw (e, f) (simp append_assoc) in
      ap (λ (t : List ℕ). set t i r) g ∙ set_at a (get_or before i 0) _ r i (length-take-le i before (omega arith))
      ∙ ap (λ (t : List ℕ). a ++ r ∷ (t ++ d)) (between_is before i n)

  pub inserted : IsPartitionPoint (λ y. ltb y r ≡ true) (λ y. ltb y r ≡ false) (take n before) i → Inserted n r before (set (copy_within before i n (i + 1)) i r)
  inserted p =
      let s : length (take n before) ≡ n = length-take-le n before (omega arith) in
      let t : List ℕ = set (copy_within before i n (i + 1)) i r in
      let k : insert_key r (take n before) ≡ take i before ++ r ∷ drop i (take n before) =
      insert-at r (take n before) i (omega arith) (λ j h. ltb-true _ _ (p.0 j 0 (omega arith) h)) (λ h. ltb-false _ _ (p.1 i 0 (omega arith) h))
      ∙ rw (take-take i n before few) in
      let a : t ≡ insert_key r (take n before) ++ drop (n + 1) before =
      shape ∙ (sym (append_assoc (take i before) (r ∷ drop i (take n before)) (drop (n + 1) before)) ∙ rw k) in
      let z : length (insert_key r (take n before)) ≡ n + 1 = omega (arith, length-insert r (take n before)) in
      record {
        keys_are = rw a (take_at (insert_key r (take n before)) _ (n + 1) z);
        rest-is = rw a (drop_at (insert_key r (take n before)) _ (n + 1) z);
        size_is = rw a (grind (arith, common_steps));
      }
