-- Items by their first bytes.
use Rattle.std.proofs.Common.{◌≡◌, refl, sym, ◌∙◌, ℕ, ◌-◌, true, false, cond, List, [], ◌∷◌, length, take, drop, arith, nat_eq}
use mathlib.Core.Bool.{and-true}
use Rattle.std.proofs.Math.Option as Math
use borrow.Author.Tests.{eqb-true, ne_eqb}
use Rattle.std.specs.Cmp.Lexicographic.{pointwise}
use Rattle.format.specs.Markup.{text, opener, closer, white, name_byte, begins_name, text_byte, front, behind, begins, tag_at, end_tag_at, skip_at, mark_at, item_at, Found}
use Rattle.format.specs.Bytes.{any_of}
use Rattle.format.proofs.Below.{by_bool}
use Rattle.markup.specs.Items.{skipped_behind, declaration_at}
use Rattle.markup.proofs.Beginning.{begins-strip, begins-start, part-rest}

-- `<` is 60
pub text-unmarked : (bs mark words rest : List ℕ) (b : ℕ) → bs ≡ b ∷ mark → (b ≡ 60 → ⊥) → (words ≡ front text_byte bs) × (rest ≡ behind text_byte bs)
    → Math.some (text words, rest) ≡ item_at bs
unfolding item_at begins
text-unmarked bs mark words rest b e h p = rw (p.0, p.1, e, ne_eqb b 60 h)

pub text_none : (bs : List ℕ) → length bs ≡ 0 → Math.some (text bs, bs) ≡ item_at bs
unfolding item_at begins front behind
text_none [] h = refl
text_none (b ∷ bs) h = absurd (omega arith)

-- what begins with it, by the bytes behind: `!` is 33, and begins no name
marked : (mark : List ℕ)
    → item_at (60 ∷ mark)
    ≡ cond (begins (33 ∷ []) mark) (declaration_at (drop 1 mark))
    (cond (begins (63 ∷ []) mark) (skipped_behind (63 ∷ 62 ∷ []) (drop 1 mark))
    (cond (begins (47 ∷ []) mark) (end_tag_at (drop 1 mark))
    (tag_at mark)))
unfolding item_at mark_at skip_at skipped_behind declaration_at begins opener closer tag_at front name_byte white any_of begins_name
marked [] = refl
marked (b ∷ bs) = by_bool (nat_eq b 33) (λ e. rw (eqb-true b 33 e)) (λ e. rw e)

-- a comment, a character-data section, or neither, from behind `<!` on
module _ (bs : List ℕ) (f : Found) where
  pub comment-declared : true ≡ pointwise nat_eq (45 ∷ 45 ∷ []) (take 2 bs) → f ≡ skipped_behind (45 ∷ 45 ∷ 62 ∷ []) (take (length bs - 2) (drop 2 bs)) → f ≡ declaration_at bs
  unfolding declaration_at
  comment-declared a e = rw (← begins-start (45 ∷ 45 ∷ []) bs, ← a, e, part-rest bs 2)

  module _ (a : false ≡ pointwise nat_eq (45 ∷ 45 ∷ []) (take 2 bs)) where
    pub section-declared : true ≡ pointwise nat_eq (91 ∷ 67 ∷ 68 ∷ 65 ∷ 84 ∷ 65 ∷ 91 ∷ []) (take 7 bs)
        → f ≡ skipped_behind (93 ∷ 93 ∷ 62 ∷ []) (take (length bs - 7) (drop 7 bs)) → f ≡ declaration_at bs
    unfolding declaration_at
    section-declared b e = rw (← begins-start (45 ∷ 45 ∷ []) bs, ← a, ← begins-start (91 ∷ 67 ∷ 68 ∷ 65 ∷ 84 ∷ 65 ∷ 91 ∷ []) bs, ← b, e, part-rest bs 7)

pub neither : (bs : List ℕ) → false ≡ pointwise nat_eq (45 ∷ 45 ∷ []) (take 2 bs)
    → false ≡ pointwise nat_eq (91 ∷ 67 ∷ 68 ∷ 65 ∷ 84 ∷ 65 ∷ 91 ∷ []) (take 7 bs) → Math.none ≡ declaration_at bs
unfolding declaration_at
neither bs a b = rw (← begins-start (45 ∷ 45 ∷ []) bs, ← a, ← begins-start (91 ∷ 67 ∷ 68 ∷ 65 ∷ 84 ∷ 65 ∷ 91 ∷ []) bs, ← b)

-- what begins with `<`, by the byte behind it
pub mark-none : (mark : List ℕ) → length mark ≡ 0 → Math.none ≡ item_at (60 ∷ mark)
unfolding begins tag_at front begins_name
mark-none [] h = rw (marked [])
mark-none (b ∷ bs) h = absurd (omega arith)

module _ (mark behind : List ℕ) (b : ℕ) (e : mark ≡ b ∷ behind) (f : Found) where
  pub declared-at : b ≡ 33 → f ≡ declaration_at behind → f ≡ item_at (60 ∷ mark)
  unfolding begins
  declared-at h i = rw (i, e, marked (b ∷ behind), h)

  pub instruction-marked : b ≡ 63 → f ≡ skipped_behind (63 ∷ 62 ∷ []) behind → f ≡ item_at (60 ∷ mark)
  unfolding begins
  instruction-marked h i = rw (i, e, marked (b ∷ behind), h)

  pub end-marked : b ≡ 47 → f ≡ end_tag_at behind → f ≡ item_at (60 ∷ mark)
  unfolding begins
  end-marked h i = rw (i, e, marked (b ∷ behind), h)

  pub tag-marked : (b ≡ 33 → ⊥) → (b ≡ 63 → ⊥) → (b ≡ 47 → ⊥) → f ≡ tag_at mark → f ≡ item_at (60 ∷ mark)
  unfolding begins
  tag-marked x y z i = rw (i, e, marked (b ∷ behind), ne_eqb b 33 x, ne_eqb b 63 y, ne_eqb b 47 z)

-- any item behind `<`
pub marked-at : (bs mark : List ℕ) (b : ℕ) → bs ≡ b ∷ mark → b ≡ 60 → (f : Found) → f ≡ item_at (60 ∷ mark) → f ≡ item_at bs
marked-at bs mark b e h f i = rw (i, e, h)

-- ---- by stripped prefixes: for who strips them, no function's proof cites these laws

-- `<` is 60
text-item : (bs : List ℕ) → begins (60 ∷ []) bs ≡ false → item_at bs ≡ Math.some (text (front text_byte bs), behind text_byte bs)
unfolding item_at
text-item bs h = rw h

pub text-at : (bs words rest : List ℕ) → pointwise nat_eq (take 1 bs) (60 ∷ []) ≡ false → (words ≡ front text_byte bs) × (rest ≡ behind text_byte bs)
    → Math.some (text words, rest) ≡ item_at bs
text-at bs words rest h p = rw (p.0, p.1) (sym (text-item bs (sym (begins-strip (60 ∷ []) bs) ∙ h)))

-- what begins with it, by the bytes behind
stripped : (mark : List ℕ)
    → item_at (60 ∷ mark)
    ≡ cond (begins (33 ∷ 45 ∷ 45 ∷ []) mark) (skipped_behind (45 ∷ 45 ∷ 62 ∷ []) (drop 3 mark))
    (cond (begins (33 ∷ 91 ∷ 67 ∷ 68 ∷ 65 ∷ 84 ∷ 65 ∷ 91 ∷ []) mark) (skipped_behind (93 ∷ 93 ∷ 62 ∷ []) (drop 8 mark))
    (cond (begins (63 ∷ []) mark) (skipped_behind (63 ∷ 62 ∷ []) (drop 1 mark))
    (cond (begins (47 ∷ []) mark) (end_tag_at (drop 1 mark))
    (tag_at mark))))
unfolding item_at mark_at skip_at skipped_behind begins opener closer
stripped mark = refl

whole : (bs mark : List ℕ) → pointwise nat_eq (take 1 bs) (60 ∷ []) ≡ true → mark ≡ drop 1 bs → bs ≡ 60 ∷ mark
whole [] mark h m = cc
whole (b ∷ bs) mark h m = let e : b ≡ 60 = eqb-true b 60 (sym (and-true (nat_eq b 60)) ∙ h) in rw (e, m)

module _ (bs mark : List ℕ) (h : pointwise nat_eq (take 1 bs) (60 ∷ []) ≡ true) (m : mark ≡ drop 1 bs) (f : Found) (rest : List ℕ) where
  same : bs ≡ 60 ∷ mark
  same = whole bs mark h m

  pub comment-at : (pointwise nat_eq (take 3 mark) (33 ∷ 45 ∷ 45 ∷ []) ≡ true) → rest ≡ drop 3 mark → f ≡ skipped_behind (45 ∷ 45 ∷ 62 ∷ []) rest → f ≡ item_at bs
  comment-at a r e = rw (same, stripped mark, ← begins-strip (33 ∷ 45 ∷ 45 ∷ []) mark, a, e, r)

  module _ (a : pointwise nat_eq (take 3 mark) (33 ∷ 45 ∷ 45 ∷ []) ≡ false) where
    pub section-at : pointwise nat_eq (take 8 mark) (33 ∷ 91 ∷ 67 ∷ 68 ∷ 65 ∷ 84 ∷ 65 ∷ 91 ∷ []) ≡ true → rest ≡ drop 8 mark
        → f ≡ skipped_behind (93 ∷ 93 ∷ 62 ∷ []) rest → f ≡ item_at bs
    section-at b r e =
        rw (same, stripped mark, ← begins-strip (33 ∷ 45 ∷ 45 ∷ []) mark, a, ← begins-strip (33 ∷ 91 ∷ 67 ∷ 68 ∷ 65 ∷ 84 ∷ 65 ∷ 91 ∷ []) mark, b, e, r)

    module _ (b : pointwise nat_eq (take 8 mark) (33 ∷ 91 ∷ 67 ∷ 68 ∷ 65 ∷ 84 ∷ 65 ∷ 91 ∷ []) ≡ false) where
      others : item_at bs
          ≡ cond (begins (63 ∷ []) mark) (skipped_behind (63 ∷ 62 ∷ []) (drop 1 mark)) (cond (begins (47 ∷ []) mark) (end_tag_at (drop 1 mark)) (tag_at mark))
      others =
          rw (same, stripped mark, ← begins-strip (33 ∷ 45 ∷ 45 ∷ []) mark, a, ← begins-strip (33 ∷ 91 ∷ 67 ∷ 68 ∷ 65 ∷ 84 ∷ 65 ∷ 91 ∷ []) mark, b)

      pub instruction-at : pointwise nat_eq (take 1 mark) (63 ∷ []) ≡ true → rest ≡ drop 1 mark → f ≡ skipped_behind (63 ∷ 62 ∷ []) rest → f ≡ item_at bs
      instruction-at c r e = rw (others, ← begins-strip (63 ∷ []) mark, c, e, r)

      module _ (c : pointwise nat_eq (take 1 mark) (63 ∷ []) ≡ false) where
        pub end-at : pointwise nat_eq (take 1 mark) (47 ∷ []) ≡ true → rest ≡ drop 1 mark → f ≡ end_tag_at rest → f ≡ item_at bs
        end-at d r e = rw (others, ← begins-strip (63 ∷ []) mark, c, ← begins-strip (47 ∷ []) mark, d, e, r)

        pub tag-at : pointwise nat_eq (take 1 mark) (47 ∷ []) ≡ false → f ≡ tag_at mark → f ≡ item_at bs
        tag-at d e = rw (others, ← begins-strip (63 ∷ []) mark, c, ← begins-strip (47 ∷ []) mark, d, e)
