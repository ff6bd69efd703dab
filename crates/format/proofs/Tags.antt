-- Start tags, empty-element tags and end tags: what is found is one of them, and one of them is found. Assumes nothing.
use Prim.Native.Nat.{ℕ}
use mathlib.Core.Path.{◌≡◌, refl, sym, ◌∙◌, ap, subst}
use mathlib.Core.List.{List, [], ◌∷◌, ◌++◌}
use mathlib.Core.Bool.{Bool, true, false, cond, not}
use mathlib.Core.Option.{some, Option-elim}
use lib.Dec.{eqb}
use borrow.Author.Tests.{eqb-true}
use Rattle.format.specs.Bytes.{any_of}
use Rattle.format.specs.Markup.{Item, start, close, empty, white, name_byte, every, FirstByte, begins_name, Name}
use Rattle.format.specs.Markup.{spelled, Tag, Leading}
use Rattle.format.specs.Markup.{front, behind, behind_tag, tag_at, closed, end_tag_at}
use Rattle.format.proofs.Below.{by_bool, and_both}
use Rattle.format.proofs.Reading.{IfFound, if-found}
use Rattle.format.proofs.Stretches.{front-behind, every_front, behind-begins, front-stretch, behind-stretch}
use Rattle.format.proofs.Attributes.{Attributed, attributed, attributes-passed, slashed-zero}

-- what is found is the item that bs begin with, and what stands behind it
abbrev pub Right : List ℕ → Item × List ℕ → Type 0
Right bs f = Leading f.0 bs f.1

-- ---- tags

-- how a stretch begins
begins-front : (p of : ℕ → Bool) (bs : List ℕ) → FirstByte p bs → FirstByte p (front of bs)
unfolding front
begins-front p of [] h = tt
begins-front p of (b ∷ bs) h = by_bool (of b) (λ e. rw e h) (λ e. rw e tt)

-- how the first part of bytes begins
begins-part : (p : ℕ → Bool) (xs ys : List ℕ) → FirstByte p (xs ++ ys) → FirstByte p xs
begins-part p [] ys h = tt
begins-part p (x ∷ xs) ys h = h

-- `>` is in no name
parted-end : (xs rest : List ℕ) → FirstByte (λ b. not (name_byte b)) xs → FirstByte (λ b. not (name_byte b)) (xs ++ (62 ∷ rest))
unfolding name_byte white any_of
parted-end [] rest h = refl
parted-end (x ∷ xs) rest h = h

-- white space is in no name
parted-white : (space : List ℕ) → every white space ≡ true → FirstByte (λ b. not (name_byte b)) space
unfolding name_byte every any_of
parted-white [] h = tt
parted-white (b ∷ space) h = rw (and_both (white b) (every white space) h).0

-- a start tag, or an empty-element tag
kind-leading : (e : Bool) (name bs rest : List ℕ) → Tag e name bs rest → Leading (cond e empty (start name)) bs rest
kind-leading true name bs rest t = (name, t)
kind-leading false name bs rest t = t

-- a tag that is found, where `<?` does not begin
pub tag-right : (bs : List ℕ) → FirstByte (λ b. not (eqb b 63)) bs → IfFound (Right (60 ∷ bs)) (tag_at bs)
unfolding tag_at
tag-right bs h =
    by_bool (begins_name (front name_byte bs))
    (λ e. rw e (if-found (Attributed 0 (behind name_byte bs)) (Right (60 ∷ bs)) (behind_tag 0 0 (behind name_byte bs)) _ (attributed (behind name_byte bs) 0)
    (λ t a. kind-leading t.0 (front name_byte bs) (60 ∷ bs) t.1 (record {
      name-right = record { named = e; whole = every_front name_byte bs };
      not_skipped = begins-front (λ b. not (eqb b 63)) name_byte bs h;
      inside = a.inside;
      parted = begins-part (λ b. not (name_byte b)) (spelled a.inside) (62 ∷ t.1)
          (subst (FirstByte (λ b. not (name_byte b))) a.written (behind-begins name_byte bs));
      quoting = a.quoting;
      ends = sym (slashed-zero (spelled a.inside)) ∙ a.kind;
      written = ap (λ r. 60 ∷ r) (front-behind name_byte bs ∙ ap (λ r. front name_byte bs ++ r) a.written);
    }))))
    (λ e. rw e tt)

-- a tag is found
pub tag-found : (e : Bool) (name bs rest : List ℕ) (t : Tag e name bs rest)
    → tag_at (name ++ (spelled t.inside ++ (62 ∷ rest))) ≡ some (cond e empty (start name), rest)
unfolding tag_at Option-elim
tag-found e name bs rest t =
    let ys : List ℕ = spelled t.inside ++ (62 ∷ rest) in
    let p = parted-end (spelled t.inside) rest t.parted in
    let f : behind_tag 0 0 ys ≡ some (e, rest) =
    attributes-passed 0 t.inside rest t.quoting ∙ ap (λ k. some (k, rest)) (slashed-zero (spelled t.inside) ∙ t.ends) in
    rw (front-stretch name_byte name ys t.name-right.whole p, behind-stretch name_byte name ys t.name-right.whole p, t.name-right.named, f)

-- ---- end tags

-- `>` that follows white space ends it
closed-right : (name space bs ys : List ℕ) → Name name → every white space ≡ true → bs ≡ name ++ (space ++ ys)
    → IfFound (Right (60 ∷ 47 ∷ bs)) (closed name ys)
unfolding closed
closed-right name space bs [] n h w = tt
closed-right name space bs (y ∷ ys) n h w =
    by_bool (eqb y 62) (λ e. rw e (record {
      name-right = n;
      space = space;
      blank = h;
      written = ap (λ r. 60 ∷ 47 ∷ r) (w ∙ ap (λ c. name ++ (space ++ (c ∷ ys))) (eqb-true y 62 e));
    })) (λ e. rw e tt)

-- an end tag that is found
pub end-right : (bs : List ℕ) → IfFound (Right (60 ∷ 47 ∷ bs)) (end_tag_at bs)
unfolding end_tag_at
end-right bs =
    by_bool (begins_name (front name_byte bs))
    (λ e. rw e (closed-right (front name_byte bs) (front white (behind name_byte bs)) bs (behind white (behind name_byte bs))
    (record { named = e; whole = every_front name_byte bs }) (every_front white (behind name_byte bs))
    (front-behind name_byte bs ∙ ap (λ r. front name_byte bs ++ r) (front-behind white (behind name_byte bs)))))
    (λ e. rw e tt)

-- an end tag is found
pub end-found : (name space rest : List ℕ) → Name name → every white space ≡ true → end_tag_at (name ++ (space ++ (62 ∷ rest))) ≡ some (close name, rest)
unfolding end_tag_at closed white any_of
end-found name space rest n h =
    let p = parted-end space rest (parted-white space h) in
    let ys : List ℕ = space ++ (62 ∷ rest) in
    rw (front-stretch name_byte name ys n.whole p, behind-stretch name_byte name ys n.whole p, n.named, behind-stretch white space (62 ∷ rest) h refl)
