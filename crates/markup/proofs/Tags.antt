-- Tags, from behind their openers on.
use Rattle.std.proofs.Common.{◌≡◌, refl, sym, ◌∙◌, ℕ, Bool, true, false, cond, List, [], ◌∷◌, length, take, drop, nat_eq, arith}
use mathlib.Core.Bool.{and-true}
use borrow.Author.Tests.{ne_eqb}
use Rattle.std.proofs.Math.Option as Math
use Rattle.std.proofs.Math.Option.{Option-elim}
use Rattle.std.specs.Cmp.Lexicographic.{pointwise}
use Rattle.format.specs.Markup.{Item, start, close, empty, white, name_byte, front, behind, begins_name, behind_tag, closed, tag_at, end_tag_at}

-- what closes an end tag, by a stripped `>`, which is 62
closed-none : (name rest : List ℕ) → pointwise nat_eq (take 1 rest) (62 ∷ []) ≡ false → closed name rest ≡ Math.none
unfolding closed
closed-none name [] h = refl
closed-none name (b ∷ rest) h = rw (sym (and-true (nat_eq b 62)) ∙ h)

closed-some : (name rest : List ℕ) → pointwise nat_eq (take 1 rest) (62 ∷ []) ≡ true → closed name rest ≡ Math.some (close name, drop 1 rest)
unfolding closed
closed-some name [] h = cc
closed-some name (b ∷ rest) h = rw (sym (and-true (nat_eq b 62)) ∙ h)

module _ (bs name rest : List ℕ) (p : (name ≡ front name_byte bs) × (rest ≡ behind name_byte bs)) where
  pub tag-unnamed : false ≡ begins_name name → Math.none ≡ tag_at bs
  unfolding tag_at
  tag-unnamed h = rw (← p.0, ← h)

  pub end-unnamed : false ≡ begins_name name → Math.none ≡ end_tag_at bs
  unfolding end_tag_at
  end-unnamed h = rw (← p.0, ← h)

  module _ (h : true ≡ begins_name name) where
    pub tag-cut : Math.none ≡ behind_tag 0 0 rest → Math.none ≡ tag_at bs
    unfolding tag_at Option-elim
    tag-cut e = rw (← p.0, ← p.1, ← h, ← e)

    pub tag-found : (is_empty : Bool) (after : List ℕ) → Math.some (is_empty, after) ≡ behind_tag 0 0 rest
        → (item : Item) → item ≡ cond is_empty empty (start name) → Math.some (item, after) ≡ tag_at bs
    unfolding tag_at Option-elim
    tag-found is_empty after e item i = rw (← p.0, ← p.1, ← h, ← e, i)

    module _ (space after : List ℕ) (q : (space ≡ front white rest) × (after ≡ behind white rest)) where
      ended : end_tag_at bs ≡ closed name after
      unfolding end_tag_at
      ended = rw (← p.0, ← p.1, ← h, ← q.1)

      pub end-cut : length after ≡ 0 → Math.none ≡ end_tag_at bs
      unfolding closed
      end-cut e = elim after as (λ l. end_tag_at bs ≡ closed name l → length l ≡ 0 → Math.none ≡ end_tag_at bs)
          [ [] ↦ λ d z. sym d | b ∷ l ↦ λ d z. absurd (omega arith) ] ended e

      -- by the byte there
      module _ (b : ℕ) (left : List ℕ) (e : after ≡ b ∷ left) where
        pub close-other : (b ≡ 62 → ⊥) → Math.none ≡ end_tag_at bs
        unfolding closed
        close-other x = rw (ended, e, ne_eqb b 62 x)

        pub close-found : b ≡ 62 → Math.some (close name, left) ≡ end_tag_at bs
        unfolding closed
        close-found x = rw (ended, e, x)

      -- by a stripped `>`: for who strips it, no function's proof cites these
      pub end-other : pointwise nat_eq (take 1 after) (62 ∷ []) ≡ false → Math.none ≡ end_tag_at bs
      unfolding end_tag_at
      end-other e = rw (← p.0, ← p.1, ← h, ← q.1) (sym (closed-none name after e))

      pub end-found : pointwise nat_eq (take 1 after) (62 ∷ []) ≡ true → (left : List ℕ) → left ≡ drop 1 after
          → Math.some (close name, left) ≡ end_tag_at bs
      unfolding end_tag_at
      end-found e left l = rw (← p.0, ← p.1, ← h, ← q.1, l) (sym (closed-some name after e))
