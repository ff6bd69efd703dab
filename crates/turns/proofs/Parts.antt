-- A part of a list, from number a up to number e: its elements, and the list when the part is put back changed.
use mathlib.Core.Path.{◌≡◌, sym, ap, ◌∙◌, subst}
use Prim.Native.Nat.{ℕ, ◌+◌, ◌-◌, ◌≤◌, ◌<◌}
use native.Mathlib.Nat.{add-sub_of_le}
use native.Mathlib.Omega.{arith}
use mathlib.Core.List.{List}
use lib.ListN.{length, get_or, take, drop, get_or-append}
use lib.Seq.{length-take-le, get_or-take, get_or-drop, get_or-append-add}
use borrow.Rule.Slice.PartMut.{mid_of, put_mid, mid_len, same_len_mid, take_put, drop_put}

pub mid_at : (a e : ℕ) (xs : List ℕ) (i : ℕ) → i < e - a → get_or (mid_of a (e - a) xs) i 0 ≡ get_or xs (a + i) 0
mid_at a e xs i h = get_or-take (e - a) (drop a xs) i 0 h ∙ get_or-drop a xs i 0

module _ (a e : ℕ) (xs ys : List ℕ) (o : a ≤ e) (fits : e ≤ length xs) (l : length ys ≡ e - a) where
  pub put-length : length (put_mid a (e - a) xs ys) ≡ length xs
  put-length = same_len_mid a (e - a) xs ys (l ∙ sym (mid_len a e xs fits))

  pub put-below : (i : ℕ) → i < a → get_or (put_mid a (e - a) xs ys) i 0 ≡ get_or xs i 0
  put-below i h = sym (get_or-take a _ i 0 h) ∙ ap (λ (z : List ℕ). get_or z i 0) (take_put a (e - a) xs ys (omega arith)) ∙ get_or-take a xs i 0 h

  pub put_in : (i : ℕ) → i < e - a → get_or (put_mid a (e - a) xs ys) (a + i) 0 ≡ get_or ys i 0
  put_in i h =
      subst (λ (z : ℕ). get_or (put_mid a (e - a) xs ys) (z + i) 0 ≡ get_or ys i 0) (length-take-le a xs (omega arith))
      (get_or-append-add (take a xs) _ i 0 ∙ get_or-append ys _ 0 i (rw l h))

  pub put-past : (i : ℕ) → e ≤ i → get_or (put_mid a (e - a) xs ys) i 0 ≡ get_or xs i 0
  put-past i h =
      subst (λ (z : ℕ). get_or (put_mid a (e - a) xs ys) z 0 ≡ get_or xs z 0) (add-sub_of_le h)
      (sym (get_or-drop e _ (i - e) 0) ∙ ap (λ (z : List ℕ). get_or z (i - e) 0) (drop_put a e xs ys o fits l) ∙ get_or-drop e xs (i - e) 0)
