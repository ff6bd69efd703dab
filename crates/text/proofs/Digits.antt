-- The digits of a number one by one, how many there are, and what it is to put them.
use Rattle.std.proofs.Common.{◌≡◌, refl, sym, ◌∙◌, ℕ, zero, suc, ◌+◌, ◌-◌, ◌/◌, ◌%◌, ◌^◌, ◌≤◌, ◌<◌, Bool, true, false, cond, List, [], ◌∷◌, ◌++◌, length}
use Rattle.std.proofs.Common.{append_assoc, append-nil, length-append, arith, lit<, ltb}
use Rattle.std.proofs.lemmas.Fmt.{AppendsLastDigit, decimal_from_appends_wide, length-decimal-le_wide, decimal_step_wide}
use Rattle.std.specs.Fmt as std
use borrow.Author.Tests.{lt-ltb, le-ltb, ltb-false}
use Rattle.text.specs.Text.{digits, decimal, signed_decimal}

-- ---- one digit

pub digits-none : (n x : ℕ) → n ≡ 0 → digits n x ≡ []
unfolding digits
digits-none zero x e = refl
digits-none (suc n) x e = absurd (omega arith)

pub digits-one : (n x : ℕ) → (n ≡ 0 → ⊥) → x < 10 → digits n x ≡ (48 + x) ∷ []
unfolding digits
digits-one zero x f h = absurd (f refl)
digits-one (suc n) x f h = rw (lt-ltb x 10 h)

pub digits_more : (n x : ℕ) → (n ≡ 0 → ⊥) → 10 ≤ x → digits n x ≡ digits (n - 1) (x / 10) ++ ((48 + x % 10) ∷ [])
unfolding digits
digits_more zero x f h = absurd (f refl)
digits_more (suc n) x f h = let e : suc n - 1 ≡ n = omega arith in rw (le-ltb x 10 h, e)

-- of a number in decimal, which is what std prints of it: for who goes from a number to its tenth, no function's proof cites these
appends : AppendsLastDigit digits
unfolding digits
appends = record { one = λ k n h. rw (lt-ltb n 10 h); more = λ k n h. rw (le-ltb n 10 h) }

wide : (x : ℕ) → x < 10 ^ 20 → x < 10 ^ 64
wide x h = omega arith

printed : (x : ℕ) → x < 10 ^ 20 → decimal x ≡ std.decimal x
unfolding decimal
printed x h = decimal_from_appends_wide digits appends 20 x (wide x h) (length-decimal-le_wide 20 x (lit< tt) h (wide x h))

pub decimal-one : (x : ℕ) → x < 10 → decimal x ≡ (48 + x) ∷ []
unfolding decimal
decimal-one x h = digits-one 20 x (λ e. absurd (omega (arith, e))) h

pub decimal_more : (x : ℕ) → 10 ≤ x → x < 10 ^ 20 → decimal x ≡ decimal (x / 10) ++ ((48 + x % 10) ∷ [])
decimal_more x l h =
    printed x h ∙ decimal_step_wide x l (wide x h) ∙ rw (printed (x / 10) (omega arith))

-- ---- how many

-- a fact of each of the two values of a test
cond-case : (P : List ℕ → Type 0) (b : Bool) {l r : List ℕ} → (b ≡ true → P l) → (b ≡ false → P r) → P (cond b l r)
cond-case P true f g = f refl
cond-case P false f g = g refl

-- at most n of them
pub digits-most : (n x : ℕ) → length (digits n x) ≤ n
unfolding digits
digits-most zero x = omega arith
digits-most (suc n) x =
    cond-case (λ l. length l ≤ suc n) (ltb x 10) (λ e. omega arith) (λ e. simp length-append (omega (arith, digits-most n (x / 10))))

-- at most k of a number below 10 ^ k: of 0 there is one
pub digits-short : (n k x : ℕ) → 0 < k → x < 10 ^ k → length (digits n x) ≤ k
unfolding digits
digits-short zero k x p h = omega arith
digits-short (suc n) zero x p h = absurd (omega arith)
digits-short (suc n) (suc zero) x p h =
    cond-case (λ l. length l ≤ 1) (ltb x 10) (λ e. omega arith) (λ e. absurd (omega (arith, ltb-false x 10 e)))
digits-short (suc n) (suc (suc k)) x p h =
    cond-case (λ l. length l ≤ suc (suc k)) (ltb x 10) (λ e. omega arith)
    (λ e. simp length-append (omega (arith, digits-short n (suc k) (x / 10) (omega arith) (omega arith))))

pub decimal-most : (x : ℕ) → length (decimal x) ≤ 20
unfolding decimal
decimal-most x = digits-most 20 x

pub decimal-short : (k x : ℕ) → 0 < k → x < 10 ^ k → length (decimal x) ≤ k
unfolding decimal
decimal-short k x p h = digits-short 20 k x p h

-- an Int in decimal, with its sign
pub signed-most : (b : ℕ) → b < 2 ^ 32 → length (signed_decimal b) ≤ 11
unfolding signed_decimal
signed-most b h =
    cond-case (λ l. length l ≤ 11) (ltb b (2 ^ 31)) (λ e. omega (arith, decimal-short 10 (2 ^ 31 - b) (omega arith) (omega arith)))
    (λ e. omega (arith, decimal-short 10 (b - 2 ^ 31) (omega arith) (omega arith)))

-- ---- a text r that says l, and then the digits of x: its last digit is put after the others, in m

pub put-none : (l : List ℕ) (n x : ℕ) → n ≡ 0 → l ≡ l ++ digits n x
put-none l n x e = rw (digits-none n x e) (sym (append-nil l))

pub put-digit : (l m r : List ℕ) (n x : ℕ) → (n ≡ 0 → ⊥) → x < 10 → m ≡ l → r ≡ m ++ ((48 + x % 10) ∷ []) → r ≡ l ++ digits n x
put-digit l m r n x f h e g =
    let d : x % 10 ≡ x = omega arith in
    g ∙ rw (e, d, digits-one n x f h)

pub put-digits : (l m r : List ℕ) (n x : ℕ) → (n ≡ 0 → ⊥) → 10 ≤ x → m ≡ l ++ digits (n - 1) (x / 10) → r ≡ m ++ ((48 + x % 10) ∷ [])
    → r ≡ l ++ digits n x
put-digits l m r n x f h e g = g ∙ rw (e, digits_more n x f h) (append_assoc l (digits (n - 1) (x / 10)) ((48 + x % 10) ∷ []))

-- as a number in decimal
pub put-one : (l m r : List ℕ) (x : ℕ) → x < 10 → m ≡ l → r ≡ m ++ ((48 + x % 10) ∷ []) → r ≡ l ++ decimal x
put-one l m r x h e f =
    let d : x % 10 ≡ x = omega arith in
    f ∙ rw (e, d, decimal-one x h)

pub put-more : (l m r : List ℕ) (x : ℕ) → 10 ≤ x → x < 10 ^ 20 → m ≡ l ++ decimal (x / 10) → r ≡ m ++ ((48 + x % 10) ∷ []) → r ≡ l ++ decimal x
put-more l m r x g h e f = f ∙ rw (e, decimal_more x g h) (append_assoc l (decimal (x / 10)) ((48 + x % 10) ∷ []))

-- the room that they take
pub put-most : (l r : List ℕ) (n x : ℕ) → r ≡ l ++ digits n x → length r ≤ length l + n
put-most l r n x e = rw e (simp length-append (omega (arith, digits-most n x)))

pub put-short : (l r : List ℕ) (x k : ℕ) → 0 < k → x < 10 ^ k → r ≡ l ++ decimal x → length r ≤ length l + k
put-short l r x k p h e = rw e (simp length-append (omega (arith, decimal-short k x p h)))

-- ---- worked cases

worked : (decimal 0 ≡ 48 ∷ [])
    × (decimal 10 ≡ 49 ∷ 48 ∷ [])
    × (decimal (2 ^ 64 - 1) ≡ 49 ∷ 56 ∷ 52 ∷ 52 ∷ 54 ∷ 55 ∷ 52 ∷ 52 ∷ 48 ∷ 55 ∷ 51 ∷ 55 ∷ 48 ∷ 57 ∷ 53 ∷ 53 ∷ 49 ∷ 54 ∷ 49 ∷ 53 ∷ [])
    × (signed_decimal 0 ≡ 45 ∷ 50 ∷ 49 ∷ 52 ∷ 55 ∷ 52 ∷ 56 ∷ 51 ∷ 54 ∷ 52 ∷ 56 ∷ [])
    × (signed_decimal (2 ^ 31 - 1) ≡ 45 ∷ 49 ∷ [])
    × (signed_decimal (2 ^ 31) ≡ 48 ∷ [])
unfolding signed_decimal decimal digits
worked = (refl, refl, refl, refl, refl, refl)
