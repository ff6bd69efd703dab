-- A range that is gone through with a test: the library's words for it are those of the tests over the numbers below n. Assumes nothing.
use Prim.Native.Nat.{ℕ, zero, suc, ◌+◌}
use mathlib.Core.Path.{◌≡◌, refl, sym, ◌∙◌}
use mathlib.Core.List.{List, [], ◌∷◌, ◌++◌, map}
use mathlib.Core.Bool.{Bool, true, false, cond, ◌||◌, or-false}
use native.Mathlib.Omega.{arith}
use native.Mathlib.Numerals.{add-one}
use Rattle.std.specs.Prelude.{Option, Some, None}
use Rattle.std.specs.List.{list_any, find, range_with_len}
use Rattle.std.specs.Option.{option_map, unwrap_or}
use Rattle.std.proofs.lemmas.List.Folds.{list_any-append, find-append}
use Rattle.std.proofs.lemmas.List.FromFn.{map-range_with_len_more}
use Rattle.format.specs.Bytes.{any_below, least_below}
use Rattle.format.proofs.Below.{by_bool, least-none}

same : (l : List ℕ) → map (λ x. x) l ≡ l
same [] = refl
same (x ∷ xs) = rw (same xs)

-- one number more
range-more : (n : ℕ) → range_with_len 0 (n + 1) ≡ range_with_len 0 n ++ n ∷ []
range-more n = sym (same _) ∙ (map-range_with_len_more (λ x. x) 0 n n (omega arith) ∙ rw (same (range_with_len 0 n)))

range-suc : (n : ℕ) (l : List ℕ) → l ≡ range_with_len 0 (suc n) → l ≡ range_with_len 0 n ++ n ∷ []
range-suc n l e = let f = range-more n in e ∙ (rw add-one at f)

any-among : (n : ℕ) (t : ℕ → Bool) (l : List ℕ) → l ≡ range_with_len 0 n → list_any t l ≡ any_below n t
unfolding any_below
any-among zero t l e = rw e
any-among (suc n) t l e = rw (range-suc n l e, list_any-append, any-among n t _ refl, or-false (t n))

pub any-range : (n : ℕ) (t : ℕ → Bool) → list_any t (range_with_len 0 n) ≡ any_below n t
any-range n t = any-among n t _ refl

-- the first number that passes
find-among : (n : ℕ) (t : ℕ → Bool) (l : List ℕ) → l ≡ range_with_len 0 n → find t l ≡ cond (any_below n t) (Some (least_below n t)) None
unfolding any_below least_below
find-among zero t l e = rw e
find-among (suc n) t l e =
    rw (range-suc n l e, find-append, find-among n t _ refl)
    (by_bool (any_below n t) (λ f. rw f) (λ f. by_bool (t n) (λ g. rw (f, g)) (λ g. rw (f, g))))

-- in a search that answered r
pub least-range : (n : ℕ) (t : ℕ → Bool) (r : Option ℕ) → option_map (λ x. x) r ≡ find t (range_with_len 0 n) → unwrap_or r n ≡ least_below n t
least-range n t r h =
    rw (← unmapped r, h, find-among n t _ refl) (by_bool (any_below n t) (λ e. rw e) (λ e. rw (e, least-none n t e)))
  where
    unmapped : (o : Option ℕ) → option_map (λ x. x) o ≡ o
    unmapped None = refl
    unmapped (Some x) = refl
