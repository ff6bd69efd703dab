-- Stretches of bytes of one class, bytes that begin with given ones, and the first place of those. Assumes nothing.
use Prim.Native.Nat.{ℕ, suc, ◌≤◌, ◌+◌}
use mathlib.Core.Path.{◌≡◌, refl, sym, ◌∙◌, ap}
use mathlib.Core.List.{List, [], ◌∷◌, ◌++◌, append_assoc, tail-eq_of_cons-eq}
use mathlib.Core.Bool.{Bool, true, false, not, true≢false}
use mathlib.Core.Option.{some}
use native.Mathlib.Omega.{arith}
use lib.ListN.{length, drop, length-append}
use lib.Dec.{eqb}
use borrow.Author.Tests.{eq-eqb, ne_eqb, eqb-true, not-true}
use Rattle.format.specs.Markup.{FirstByte, every, front, behind, begins, behind_first}
use Rattle.format.proofs.Below.{by_bool, and_both}
use Rattle.format.proofs.Reading.{IfFound, if-so}

-- ---- a class of bytes

-- a byte of the class is not a byte that is not of it
pub not-of : (of : ℕ → Bool) (b c : ℕ) → of b ≡ true → of c ≡ false → eqb b c ≡ false
not-of of b c h k = ne_eqb b c (λ e. true≢false (sym h ∙ ap of e ∙ k))

module _ (of : ℕ → Bool) where
  -- the stretch that bytes begin with, and the rest
  pub front-behind : (bs : List ℕ) → bs ≡ front of bs ++ behind of bs
  unfolding front behind
  front-behind [] = refl
  front-behind (b ∷ bs) = by_bool (of b) (λ e. rw e (ap (λ r. b ∷ r) (front-behind bs))) (λ e. rw e)

  -- each byte of that stretch is of the class
  pub every_front : (bs : List ℕ) → every of (front of bs) ≡ true
  unfolding every front
  every_front [] = refl
  every_front (b ∷ bs) = by_bool (of b) (λ e. rw (e, e) (every_front bs)) (λ e. rw e)

  -- the rest begins with a byte that is not of it
  pub behind-begins : (bs : List ℕ) → FirstByte (λ b. not (of b)) (behind of bs)
  unfolding behind
  behind-begins [] = tt
  behind-begins (b ∷ bs) = by_bool (of b) (λ e. rw e (behind-begins bs)) (λ e. rw (e, e))

  -- a stretch of the class before bytes that begin otherwise
  pub front-stretch : (xs ys : List ℕ) → every of xs ≡ true → FirstByte (λ b. not (of b)) ys → front of (xs ++ ys) ≡ xs
  unfolding every front
  front-stretch [] [] h k = refl
  front-stretch [] (y ∷ ys) h k = rw (not-true (of y) k)
  front-stretch (x ∷ xs) ys h k =
      let both = and_both (of x) (every of xs) h in
      rw both.0 (ap (λ r. x ∷ r) (front-stretch xs ys both.1 k))

  pub behind-stretch : (xs ys : List ℕ) → every of xs ≡ true → FirstByte (λ b. not (of b)) ys → behind of (xs ++ ys) ≡ ys
  unfolding every behind
  behind-stretch [] [] h k = refl
  behind-stretch [] (y ∷ ys) h k = rw (not-true (of y) k)
  behind-stretch (x ∷ xs) ys h k =
      let both = and_both (of x) (every of xs) h in
      rw both.0 (behind-stretch xs ys both.1 k)

-- ---- bytes that begin with xs

-- what stands behind xs
pub drop-front : (xs ys : List ℕ) → drop (length xs) (xs ++ ys) ≡ ys
drop-front [] ys = refl
drop-front (x ∷ xs) ys = drop-front xs ys

-- xs and more begin with xs
pub begins-own : (xs ys : List ℕ) → begins xs (xs ++ ys) ≡ true
unfolding begins
begins-own [] ys = refl
begins-own (x ∷ xs) ys = rw (eq-eqb x x refl) (begins-own xs ys)

-- what begins with xs is xs and what stands behind
pub begins-is : (xs bs : List ℕ) → begins xs bs ≡ true → bs ≡ xs ++ drop (length xs) bs
unfolding begins
begins-is [] bs h = refl
begins-is (x ∷ xs) [] h = absurd (true≢false (sym h))
begins-is (x ∷ xs) (b ∷ bs) h =
    let both = and_both (eqb b x) (begins xs bs) h in
    λ i. eqb-true b x both.0 i ∷ begins-is xs bs both.1 i

-- so does a part that is long enough
pub begins-part : (xs ys zs : List ℕ) → length xs ≤ length ys → begins xs (ys ++ zs) ≡ true → begins xs ys ≡ true
unfolding begins
begins-part [] ys zs l h = refl
begins-part (x ∷ xs) [] zs l h = absurd (omega arith)
begins-part (x ∷ xs) (y ∷ ys) zs l h =
    let both = and_both (eqb y x) (begins xs (ys ++ zs)) h in
    rw both.0 (begins-part xs ys zs (omega arith) both.1)

-- ---- the first xs

-- where xs stand behind body, they stand nowhere before
abbrev pub NoneBefore : List ℕ → List ℕ → Type 0
NoneBefore xs body = (before after : List ℕ) → body ++ xs ≡ before ++ (xs ++ after) → after ≡ []

-- rest stands behind the first xs
pub record BehindFirst (xs bs rest : List ℕ) : Type 0 where
  pub body : List ℕ
  pub written : bs ≡ body ++ (xs ++ rest)
  pub first : NoneBefore xs body

-- no bytes are the empty list
nothing-long : (xs : List ℕ) → length xs ≤ 0 → xs ≡ []
nothing-long [] h = refl
nothing-long (x ∷ xs) h = absurd (omega arith)

-- the length of three parts
lengths : (xs ys zs : List ℕ) → length (xs ++ (ys ++ zs)) ≡ length xs + (length ys + length zs)
lengths xs ys zs = length-append xs (ys ++ zs) ∙ ap (λ n. length xs + n) (length-append ys zs)

-- bytes before the first xs do not begin with them
not_yet : (xs : List ℕ) (b : ℕ) (body rest : List ℕ) → NoneBefore xs (b ∷ body) → begins xs (b ∷ body ++ (xs ++ rest)) ≡ true → ⊥
not_yet xs b body rest f e =
    let after : List ℕ = drop (length xs) (b ∷ body ++ xs) in
    let long : length (b ∷ body ++ xs) ≡ suc (length body) + length xs = length-append (b ∷ body) xs in
    let own : begins xs (b ∷ body ++ xs) ≡ true = begins-part xs (b ∷ body ++ xs) rest (omega arith) (rw (append_assoc (b ∷ body) xs rest) e) in
    let is : b ∷ body ++ xs ≡ xs ++ after = begins-is xs (b ∷ body ++ xs) own in
    let sum : length (b ∷ body ++ xs) ≡ length xs + length after = ap length is ∙ length-append xs after in
    let none_left : length after ≡ 0 = ap length (f [] after is) in
    omega arith

-- xs that stand nowhere before are found
pub first-behind : (x : ℕ) (xs body rest : List ℕ) → NoneBefore (x ∷ xs) body → behind_first (x ∷ xs) (body ++ (x ∷ xs ++ rest)) ≡ some rest
unfolding behind_first
first-behind x xs [] rest f = rw (begins-own (x ∷ xs) rest, drop-front xs rest)
first-behind x xs (b ∷ body) rest f =
    by_bool (begins (x ∷ xs) (b ∷ body ++ (x ∷ xs ++ rest)))
    (λ e. absurd (not_yet (x ∷ xs) b body rest f e))
    (λ e. rw e (first-behind x xs body rest (λ before after h. f (b ∷ before) after (ap (λ r. b ∷ r) h))))

-- nothing stands before
none-before-here : (xs : List ℕ) → NoneBefore xs []
none-before-here xs before after h =
    let sum : length xs ≡ length before + (length xs + length after) = ap length h ∙ lengths before xs after in
    nothing-long after (omega arith)

-- one byte more stands before, and xs do not begin there
none-before-next : (xs : List ℕ) (b : ℕ) (body rest : List ℕ) → begins xs (b ∷ body ++ (xs ++ rest)) ≡ false → NoneBefore xs body → NoneBefore xs (b ∷ body)
none-before-next xs b body rest e f [] after h =
    let is : b ∷ body ++ (xs ++ rest) ≡ xs ++ (after ++ rest) = sym (append_assoc (b ∷ body) xs rest) ∙ ap (λ r. r ++ rest) h ∙ append_assoc xs after rest in
    absurd (true≢false (sym (begins-own xs (after ++ rest)) ∙ ap (begins xs) (sym is) ∙ e))
none-before-next xs b body rest e f (c ∷ before) after h = f before after (tail-eq_of_cons-eq h)

-- xs that are found stand nowhere before
pub behind-first : (xs bs : List ℕ) → IfFound (BehindFirst xs bs) (behind_first xs bs)
unfolding behind_first
behind-first xs [] = tt
behind-first xs (b ∷ bs) =
    by_bool (begins xs (b ∷ bs))
    (λ e. rw e (record { body = []; written = begins-is xs (b ∷ bs) e; first = none-before-here xs }))
    (λ e. rw e (if-so (BehindFirst xs bs) (BehindFirst xs (b ∷ bs)) (behind_first xs bs) (λ rest f. record {
      body = b ∷ f.body;
      written = ap (λ r. b ∷ r) f.written;
      first = none-before-next xs b f.body rest (rw f.written at e) f.first;
    }) (behind-first xs bs)))
