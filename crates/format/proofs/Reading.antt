-- Reading goes item by item: every item leaves fewer bytes than there were, so the bound of `readFrom` never cuts it short. Assumes nothing.
use Prim.Native.Nat.{ℕ, zero, suc, ◌≤◌, ◌<◌, suc-le-suc}
use mathlib.Core.Path.{◌≡◌, refl, sym, ◌∙◌, ap, subst}
use mathlib.Core.List.{List, [], ◌∷◌}
use mathlib.Core.Bool.{Bool, true, false, cond, ◌&&◌, and-true}
use mathlib.Core.Option.{Option, none, some, Option-elim}
use native.Mathlib.Omega.{arith}
use lib.ListN.{length, drop}
use lib.Dec.{eqb}
use Rattle.format.specs.Markup.{Item, Skip, comment, instruction, charData, opener, closer, name_byte, white, text_byte, begins_name}
use Rattle.format.specs.Markup.{Found, front, behind, begins, behind_first, quote_after, behind_tag, tag_at, closed, end_tag_at, skip_at, mark_at, item_at}
use Rattle.format.specs.Markup.{or_none, one_more, read_from, reads_as}
use Rattle.format.proofs.Below.{by_bool}

-- what is found, if anything, has the property
abbrev pub IfFound : {A : Type 0} → (A → Type 0) → Option A → Type 0
IfFound P none = Unit
IfFound P (some a) = P a

-- an item with at most n bytes behind it
abbrev Leaves : ℕ → Item × List ℕ → Type 0
Leaves n i = length i.1 ≤ n

-- what holds of both answers holds of the one that is taken
pub either : {A : Type 0} (P : A → Type 0) (t : Bool) (x y : A) → P x → P y → P (cond t x y)
either P true x y p q = p
either P false x y p q = q

-- what is found with one property, and answered with another
pub if-found : {A B : Type 0} (P : A → Type 0) (Q : B → Type 0) (o : Option A) (f : A → Option B)
    → IfFound P o → ((a : A) → P a → IfFound Q (f a)) → IfFound Q (Option-elim o none f)
unfolding Option-elim
if-found P Q none f h g = tt
if-found P Q (some a) f h g = g a h

-- what has one property has another
pub if-so : {A : Type 0} (P Q : A → Type 0) (o : Option A) → ((a : A) → P a → Q a) → IfFound P o → IfFound Q o
if-so P Q none f h = tt
if-so P Q (some a) f h = f a h

-- ---- what stands behind is part of the bytes

-- no more bytes are left than there were
drop-shorter : (k : ℕ) (bs : List ℕ) → length (drop k bs) ≤ length bs
drop-shorter zero bs = omega arith
drop-shorter (suc k) [] = omega arith
drop-shorter (suc k) (b ∷ bs) = let h = drop-shorter k bs in omega arith

behind-shorter : (of : ℕ → Bool) (bs : List ℕ) → length (behind of bs) ≤ length bs
unfolding behind
behind-shorter of [] = omega arith
behind-shorter of (b ∷ bs) =
    let h = behind-shorter of bs in
    either (λ x. length x ≤ suc (length bs)) (of b) (behind of bs) (b ∷ bs) (omega arith) (omega arith)

first-shorter : (n : ℕ) (xs bs : List ℕ) → length bs ≤ n → IfFound (λ x. length x ≤ n) (behind_first xs bs)
unfolding behind_first
first-shorter n xs [] h = tt
first-shorter n xs (b ∷ bs) h =
    let d = drop-shorter (length xs) (b ∷ bs) in
    either (IfFound (λ x. length x ≤ n)) (begins xs (b ∷ bs)) _ _ (omega arith) (first-shorter n xs bs (omega arith))

tag-shorter : (n q last : ℕ) (bs : List ℕ) → length bs ≤ n → IfFound {A = Bool × List ℕ} (λ t. length t.1 ≤ n) (behind_tag q last bs)
unfolding behind_tag
tag-shorter n q last [] h = tt
tag-shorter n q last (b ∷ bs) h =
    let P : Option (Bool × List ℕ) → Type 0 = IfFound {A = Bool × List ℕ} (λ t. length t.1 ≤ n) in
    either P (eqb q 0 && eqb b 62) _ _ (omega arith)
    (either P (eqb q 0 && eqb b 60) none _ tt (tag-shorter n (quote_after q b) b bs (omega arith)))

-- ---- an item

-- no kind of item leaves more bytes than its own reading began with
tagAt-shorter : (n : ℕ) (bs : List ℕ) → length bs ≤ n → IfFound (Leaves n) (tag_at bs)
unfolding tag_at
tagAt-shorter n bs h =
    let k = behind-shorter name_byte bs in
    either (IfFound (Leaves n)) (begins_name (front name_byte bs)) _ none
    (if-found _ (Leaves n) (behind_tag 0 0 (behind name_byte bs)) _ (tag-shorter n 0 0 (behind name_byte bs) (omega arith)) (λ t l. l)) tt

closed-shorter : (n : ℕ) (name bs : List ℕ) → length bs ≤ n → IfFound (Leaves n) (closed name bs)
unfolding closed
closed-shorter n name [] h = tt
closed-shorter n name (b ∷ bs) h = either (IfFound (Leaves n)) (eqb b 62) _ none (omega arith) tt

endTagAt-shorter : (n : ℕ) (bs : List ℕ) → length bs ≤ n → IfFound (Leaves n) (end_tag_at bs)
unfolding end_tag_at
endTagAt-shorter n bs h =
    let k = behind-shorter name_byte bs in
    let l = behind-shorter white (behind name_byte bs) in
    either (IfFound (Leaves n)) (begins_name (front name_byte bs)) _ none
    (closed-shorter n (front name_byte bs) (behind white (behind name_byte bs)) (omega arith)) tt

-- a skipped part, and whatever `<` begins, leaves fewer bytes than there were
skipAt-shorter : (k : Skip) (b : ℕ) (bs : List ℕ) → IfFound (Leaves (length bs)) (skip_at k (b ∷ bs))
unfolding skip_at
skipAt-shorter k b bs =
    if-found _ (Leaves (length bs)) (behind_first (closer k) (drop (length (opener k)) (b ∷ bs))) _
    (first-shorter (length bs) (closer k) (drop (length (opener k)) (b ∷ bs)) (opened k)) (λ r l. l)
  where
    opened : (k : Skip) → length (drop (length (opener k)) (b ∷ bs)) ≤ length bs
    opened comment = unfold opener in drop-shorter 3 bs
    opened instruction = unfold opener in drop-shorter 1 bs
    opened charData = unfold opener in drop-shorter 8 bs

mark-shorter : (b : ℕ) (bs : List ℕ) → IfFound (Leaves (length bs)) (mark_at (b ∷ bs))
unfolding mark_at
mark-shorter b bs =
    let P : Found → Type 0 = IfFound (Leaves (length bs)) in
    either P (begins (opener comment) (b ∷ bs)) _ _ (skipAt-shorter comment b bs)
    (either P (begins (opener charData) (b ∷ bs)) _ _ (skipAt-shorter charData b bs)
    (either P (begins (opener instruction) (b ∷ bs)) _ _ (skipAt-shorter instruction b bs)
    (either P (begins (60 ∷ 47 ∷ []) (b ∷ bs)) _ _ (endTagAt-shorter (length bs) (drop 1 bs) (drop-shorter 1 bs))
    (tagAt-shorter (length bs) bs (omega arith)))))

-- text that does not begin with `<` has its first byte
text-shorter : (b : ℕ) (bs : List ℕ) → begins (60 ∷ []) (b ∷ bs) ≡ false → length (behind text_byte (b ∷ bs)) ≤ length bs
unfolding begins behind text_byte
text-shorter b bs e = rw (sym (and-true (eqb b 60)) ∙ e) (behind-shorter text_byte bs)

item-shorter : (b : ℕ) (bs : List ℕ) → IfFound (Leaves (length bs)) (item_at (b ∷ bs))
unfolding item_at
item-shorter b bs = by_bool (begins (60 ∷ []) (b ∷ bs)) (λ e. rw e (mark-shorter b bs)) (λ e. rw e (text-shorter b bs e))

-- an item leaves fewer bytes than there were
pub shorter : (b : ℕ) (bs : List ℕ) (i : Item × List ℕ) → item_at (b ∷ bs) ≡ some i → length i.1 < length (b ∷ bs)
shorter b bs i e = suc-le-suc (subst (IfFound (Leaves (length bs))) e (item-shorter b bs))

-- ---- items of bytes

-- the answers are the same where the rests of the bytes read the same
same_rest : (f g : List ℕ → Option (List Item)) (n : ℕ) (o : Found) → IfFound (Leaves n) o → ((x : List ℕ) → length x ≤ n → f x ≡ g x)
    → Option-elim o none (λ i. one_more i.0 (f i.1)) ≡ Option-elim o none (λ i. one_more i.0 (g i.1))
unfolding Option-elim
same_rest f g n none h e = refl
same_rest f g n (some i) h e = ap (one_more i.0) (e i.1 h)

-- with as many items allowed as there are bytes, more change nothing
pub reads-enough : (n m : ℕ) (bs : List ℕ) → length bs ≤ n → length bs ≤ m → read_from n bs ≡ read_from m bs
unfolding read_from or_none
reads-enough zero zero bs h k = refl
reads-enough zero (suc m) [] h k = refl
reads-enough zero (suc m) (b ∷ bs) h k = absurd (omega arith)
reads-enough (suc n) zero [] h k = refl
reads-enough (suc n) zero (b ∷ bs) h k = absurd (omega arith)
reads-enough (suc n) (suc m) [] h k = refl
reads-enough (suc n) (suc m) (b ∷ bs) h k =
    same_rest (read_from n) (read_from m) (length bs) (item_at (b ∷ bs)) (item-shorter b bs) (λ x l. reads-enough n m x (omega arith) (omega arith))

-- no bytes are no items
pub reads_nothing : reads_as [] ≡ some []
unfolding reads_as read_from or_none
reads_nothing = refl

-- bytes read as their first item and what the bytes behind it read as
pub reads-step : (b : ℕ) (bs : List ℕ) → reads_as (b ∷ bs) ≡ Option-elim (item_at (b ∷ bs)) none (λ i. one_more i.0 (reads_as i.1))
unfolding reads_as read_from or_none
reads-step b bs =
    same_rest (read_from (length bs)) (λ x. read_from (length x) x) (length bs) (item_at (b ∷ bs)) (item-shorter b bs)
    (λ x l. reads-enough (length bs) (length x) x l (omega arith))
