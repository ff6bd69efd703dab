-- Bytes split where those of a class end.
use Rattle.std.proofs.Common.{◌≡◌, refl, ap, ◌∙◌, ℕ, suc, ◌+◌, ◌<◌, Bool, true, false, List, [], ◌∷◌, ◌++◌, length, get_or, length-append, arith}
use Rattle.format.specs.Markup.{front, behind}

module _ (of : ℕ → Bool) where
  parts : (xs ys : List ℕ) → ((k : ℕ) → k < length xs → true ≡ of (get_or (xs ++ ys) k 0))
      → (0 < length ys → false ≡ of (get_or (xs ++ ys) (length xs) 0)) → (xs ≡ front of (xs ++ ys)) × (ys ≡ behind of (xs ++ ys))
  unfolding front behind
  parts [] [] b s = (refl, refl)
  parts [] (y ∷ ys) b s = (rw (← s (omega arith)), rw (← s (omega arith)))
  parts (x ∷ xs) ys b s =
      let h = parts xs ys (λ k l. b (suc k) (omega arith)) s in
      (rw (← b 0 (omega arith)) (ap (λ l. x ∷ l) h.0), rw (← b 0 (omega arith)) h.1)

  pub split-by : (bs xs ys : List ℕ) → bs ≡ xs ++ ys → ((k : ℕ) → k < length xs → true ≡ of (get_or bs k 0))
      → (length xs < length bs → false ≡ of (get_or bs (length xs) 0)) → (xs ≡ front of bs) × (ys ≡ behind of bs)
  split-by bs xs ys e b s =
      let l : length bs ≡ length xs + length ys = ap length e ∙ length-append xs ys in
      rw e (parts xs ys (λ k h. rw (← e) (b k h)) (λ h. rw (← e) (s (omega arith))))
