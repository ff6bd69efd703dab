-- What stands between a start tag's name and its `>`: attributes are passed as they are written. Assumes nothing.
use Prim.Native.Nat.{ℕ}
use mathlib.Core.Path.{◌≡◌, refl, sym, ◌∙◌, ap}
use mathlib.Core.List.{List, [], ◌∷◌, ◌++◌, append_assoc}
use mathlib.Core.Bool.{Bool, true, false, not}
use mathlib.Core.Option.{some}
use lib.Dec.{eqb}
use borrow.Author.Tests.{eq-eqb, eqb-true, not-true}
use Rattle.format.specs.Bytes.{any_of}
use Rattle.format.specs.Markup.{quote, bare_byte, every}
use Rattle.format.specs.Markup.{Inside, bare, quoted, spelled, Quoting, slashed}
use Rattle.format.specs.Markup.{quote_after, behind_tag}
use Rattle.format.proofs.Below.{by_bool, and_both, none as no_test}
use Rattle.format.proofs.Reading.{IfFound, if-so}
use Rattle.format.proofs.Stretches.{not-of}

-- ---- the last byte

-- it is that of what stands behind
slashed-behind : (xs : List ℕ) (y : ℕ) (ys : List ℕ) → slashed (xs ++ (y ∷ ys)) ≡ slashed (y ∷ ys)
unfolding slashed
slashed-behind [] y ys = refl
slashed-behind (x ∷ []) y ys = refl
slashed-behind (x ∷ z ∷ xs) y ys = slashed-behind (z ∷ xs) y ys

-- no byte before counts as one that is not `/`
pub slashed-zero : (xs : List ℕ) → slashed (0 ∷ xs) ≡ slashed xs
unfolding slashed
slashed-zero [] = refl
slashed-zero (x ∷ xs) = refl

-- ---- attributes that are written are passed

-- a quoted stretch up to its second quote
quoted-passed : (q last : ℕ) (inner ys : List ℕ) → quote q ≡ true → every (λ b. not (eqb b q)) inner ≡ true
    → behind_tag q last (inner ++ (q ∷ ys)) ≡ behind_tag 0 q ys
unfolding behind_tag quote_after every quote any_of
quoted-passed q last [] ys h k = rw (not-of quote q 0 h refl, eq-eqb q q refl)
quoted-passed q last (b ∷ inner) ys h k =
    let both = and_both (not (eqb b q)) (every (λ b. not (eqb b q)) inner) k in
    rw (not-of quote q 0 h refl, not-true (eqb b q) both.0) (quoted-passed q b inner ys h both.1)

-- attributes up to the tag's `>`
pub attributes-passed : (last : ℕ) (list : List Inside) (rest : List ℕ) → Quoting list
    → behind_tag 0 last (spelled list ++ (62 ∷ rest)) ≡ some (slashed (last ∷ spelled list), rest)
unfolding behind_tag quote_after bare_byte quote any_of
attributes-passed last [] rest h = unfold slashed in refl
attributes-passed last (bare b ∷ list) rest h =
    let out = no_test (quote b ∷ eqb b 60 ∷ eqb b 62 ∷ []) (not-true _ h.0) in
    rw (out 2, out 1, out 0, slashed-behind (last ∷ []) b (spelled list)) (attributes-passed b list rest h.1)
attributes-passed last (quoted q inner ∷ list) rest h =
    rw (not-of quote q 62 h.0 refl, not-of quote q 60 h.0 refl, h.0, slashed-behind (last ∷ q ∷ inner) q (spelled list))
    (rw (append_assoc inner (q ∷ spelled list) (62 ∷ rest))
    (quoted-passed q q inner (spelled list ++ (62 ∷ rest)) h.0 h.1 ∙ attributes-passed q list rest h.2))

-- ---- attributes that are passed are written

-- what stands from behind a tag's name on, or from behind that last byte on: attributes, `>` and the rest
pub record Attributed (last : ℕ) (bs : List ℕ) (found : Bool × List ℕ) : Type 0 where
  pub inside : List Inside
  pub quoting : Quoting inside
  pub kind : slashed (last ∷ spelled inside) ≡ found.0
  pub written : bs ≡ spelled inside ++ (62 ∷ found.1)

-- the same inside a quoted stretch
record Enclosed (q : ℕ) (bs : List ℕ) (found : Bool × List ℕ) : Type 0 where
  inner : List ℕ
  whole : every (λ b. not (eqb b q)) inner ≡ true
  behind-quote : List ℕ
  written : bs ≡ inner ++ (q ∷ behind-quote)
  rest : Attributed q behind-quote found

-- a byte outside quotes more
plain_more : (last b : ℕ) (bs : List ℕ) (found : Bool × List ℕ) → bare_byte b ≡ true → Attributed b bs found → Attributed last (b ∷ bs) found
plain_more last b bs found h a =
    record {
      inside = bare b ∷ a.inside;
      quoting = (h, a.quoting);
      kind = slashed-behind (last ∷ []) b (spelled a.inside) ∙ a.kind;
      written = ap (λ r. b ∷ r) a.written;
    }

-- a quoted stretch more
quoted-more : (last q : ℕ) (bs : List ℕ) (found : Bool × List ℕ) → quote q ≡ true → Enclosed q bs found → Attributed last (q ∷ bs) found
quoted-more last q bs found h a =
    let r = a.rest in
    record {
      inside = quoted q a.inner ∷ r.inside;
      quoting = (h, a.whole, r.quoting);
      kind = slashed-behind (last ∷ q ∷ a.inner) q (spelled r.inside) ∙ r.kind;
      written = ap (λ x. q ∷ x) (a.written ∙ ap (λ x. a.inner ++ (q ∷ x)) r.written
          ∙ sym (append_assoc a.inner (q ∷ spelled r.inside) (62 ∷ found.1)));
    }

-- the second quote
enclosed-end : (q b : ℕ) (bs : List ℕ) (found : Bool × List ℕ) → b ≡ q → Attributed b bs found → Enclosed q (b ∷ bs) found
unfolding every
enclosed-end q b bs found e a =
    record { inner = []; whole = refl; behind-quote = bs; written = ap (λ c. c ∷ bs) e; rest = rw e at a }

-- a byte more before it
enclosed-more : (q b : ℕ) (bs : List ℕ) (found : Bool × List ℕ) → eqb b q ≡ false → Enclosed q bs found → Enclosed q (b ∷ bs) found
unfolding every
enclosed-more q b bs found e a =
    record {
      inner = b ∷ a.inner;
      whole = rw e a.whole;
      behind-quote = a.behind-quote;
      written = ap (λ r. b ∷ r) a.written;
      rest = a.rest;
    }

-- what is no quote, `<` or `>` stands outside quotes
plain-is : (b : ℕ) → eqb b 62 ≡ false → eqb b 60 ≡ false → quote b ≡ false → bare_byte b ≡ true
unfolding bare_byte any_of
plain-is b e f g = rw (e, f, g)

-- 0 is no quote
quote-not-zero : (q : ℕ) → quote q ≡ true → eqb q 0 ≡ false
unfolding quote any_of
quote-not-zero q h = not-of quote q 0 h refl

mutual
  unfolding behind_tag quote_after slashed

  -- outside quotes
  pub attributed : (bs : List ℕ) (last : ℕ) → IfFound (Attributed last bs) (behind_tag 0 last bs)
  attributed [] last = tt
  attributed (b ∷ bs) last =
      by_bool (eqb b 62) (λ e. rw e (record { inside = []; quoting = tt; kind = refl; written = ap (λ c. c ∷ bs) (eqb-true b 62 e) }))
      (λ e. rw e (by_bool (eqb b 60) (λ f. rw f tt)
      (λ f. rw f (by_bool (quote b)
      (λ g. rw g (if-so (Enclosed b bs) (Attributed last (b ∷ bs)) (behind_tag b b bs) (λ t. quoted-more last b bs t g) (enclosed bs b b g)))
      (λ g. rw g (if-so (Attributed b bs) (Attributed last (b ∷ bs)) (behind_tag 0 b bs) (λ t. plain_more last b bs t (plain-is b e f g)) (attributed bs b)))))))

  -- inside quotes
  enclosed : (bs : List ℕ) (q last : ℕ) → quote q ≡ true → IfFound (Enclosed q bs) (behind_tag q last bs)
  enclosed [] q last h = tt
  enclosed (b ∷ bs) q last h =
      rw (quote-not-zero q h) (by_bool (eqb b q)
      (λ e. rw e (if-so (Attributed b bs) (Enclosed q (b ∷ bs)) (behind_tag 0 b bs) (λ t. enclosed-end q b bs t (eqb-true b q e)) (attributed bs b)))
      (λ e. rw e (if-so (Enclosed q bs) (Enclosed q (b ∷ bs)) (behind_tag q b bs) (λ t. enclosed-more q b bs t e) (enclosed bs q b h))))
