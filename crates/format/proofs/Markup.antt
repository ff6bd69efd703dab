-- The bytes of metadata read as the items that `readsAs` says, and as no others: the relation `Reads` and the function agree. Assumes nothing.
use Prim.Native.Nat.{ℕ}
use mathlib.Core.Path.{◌≡◌, refl, sym, ◌∙◌, ap, subst}
use mathlib.Core.Logic.{◌↔◌}
use mathlib.Core.List.{List, [], ◌∷◌, ◌++◌, nil≢cons, cons≢nil, head-eq_of_cons-eq, tail-eq_of_cons-eq}
use mathlib.Core.Bool.{Bool, true, false, not, and-true, true≢false}
use mathlib.Core.Option.{Option, none, some, some-injective, some-ne-none, Option-elim}
use lib.ListN.{length, drop}
use lib.Dec.{eqb}
use borrow.Author.Tests.{eqb-true, not-true, not-false}
use Rattle.format.specs.Bytes.{any_of}
use Rattle.format.specs.Markup.{Item, start, close, empty, text, skipped, white, name_byte, text_byte, every, FirstByte, begins_name, Name}
use Rattle.format.specs.Markup.{Text, Skip, comment, instruction, charData, opener, closer, Leading, Reads, Found}
use Rattle.format.specs.Markup.{front, behind, begins, behind_first, tag_at, end_tag_at, skip_at, mark_at, item_at, one_more, reads_as}
use Rattle.format.proofs.Below.{by_bool, and_both}
use Rattle.format.proofs.Reading.{IfFound, if-found, reads_nothing, reads-step}
use Rattle.format.proofs.Stretches.{not-of, front-behind, every_front, behind-begins, front-stretch, behind-stretch}
use Rattle.format.proofs.Stretches.{drop-front, begins-is, NoneBefore, BehindFirst, first-behind, behind-first}
use Rattle.format.proofs.Tags.{Right, tag-right, tag-found, end-right, end-found}

-- ---- a skipped part

-- one that is found
skip-right : (k : Skip) (bs : List ℕ) → begins (opener k) bs ≡ true → IfFound (Right bs) (skip_at k bs)
unfolding skip_at
skip-right k bs e =
    let ys : List ℕ = drop (length (opener k)) bs in
    if-found (BehindFirst (closer k) ys) (Right bs) (behind_first (closer k) ys) _ (behind-first (closer k) ys)
    (λ rest f. record { kind = k; body = f.body; written = begins-is (opener k) bs e ∙ ap (λ r. opener k ++ r) f.written; first = f.first })

-- a closer is found where it stands first
closer-behind : (k : Skip) (body rest : List ℕ) → NoneBefore (closer k) body → behind_first (closer k) (body ++ (closer k ++ rest)) ≡ some rest
unfolding closer
closer-behind comment body rest = first-behind 45 (45 ∷ 62 ∷ []) body rest
closer-behind instruction body rest = first-behind 63 (62 ∷ []) body rest
closer-behind charData body rest = first-behind 93 (93 ∷ 62 ∷ []) body rest

-- a skipped part is found
skip-found : (k : Skip) (body rest : List ℕ) → NoneBefore (closer k) body → skip_at k (opener k ++ (body ++ (closer k ++ rest))) ≡ some (skipped, rest)
unfolding skip_at Option-elim
skip-found k body rest f = rw (drop-front (opener k) (body ++ (closer k ++ rest)), closer-behind k body rest f)

-- ---- which kind of item begins

-- a skipped part
at-skip : (k : Skip) (ys : List ℕ) → item_at (opener k ++ ys) ≡ skip_at k (opener k ++ ys)
unfolding item_at mark_at begins opener
at-skip comment ys = refl
at-skip instruction ys = refl
at-skip charData ys = refl

-- an end tag
at-end : (ys : List ℕ) → item_at (60 ∷ 47 ∷ ys) ≡ end_tag_at ys
unfolding item_at mark_at begins opener
at-end ys = refl

-- a start tag or an empty-element tag
at_tag : (name ys : List ℕ) → Name name → FirstByte (λ b. not (eqb b 63)) name → item_at (60 ∷ name ++ ys) ≡ tag_at (name ++ ys)
unfolding item_at mark_at begins opener begins_name every name_byte white any_of
at_tag [] ys n h = absurd (true≢false (sym n.named))
at_tag (b ∷ name) ys n h =
    rw (not-true (eqb b 33) n.named, not-true (eqb b 63) h, not-of name_byte b 47 (and_both (name_byte b) (every name_byte name) n.whole).0 refl)

-- anything that `<` begins
at_mark : (bs : List ℕ) → item_at (60 ∷ bs) ≡ mark_at (60 ∷ bs)
unfolding item_at begins
at_mark bs = refl

-- text
at-text : (b : ℕ) (bs : List ℕ) → text_byte b ≡ true → item_at (b ∷ bs) ≡ some (text (front text_byte (b ∷ bs)), behind text_byte (b ∷ bs))
unfolding item_at begins text_byte
at-text b bs h = rw (not-true (eqb b 60) h)

-- ---- an item that is found

-- `<?` does not begin
no-instruction : (bs : List ℕ) → begins (opener instruction) (60 ∷ bs) ≡ false → FirstByte (λ b. not (eqb b 63)) bs
unfolding begins opener
no-instruction [] e = tt
no-instruction (b ∷ bs) e = rw (sym (and-true (eqb b 63)) ∙ e)

-- of bytes that begin with `<`
mark-right : (bs : List ℕ) → IfFound (Right (60 ∷ bs)) (mark_at (60 ∷ bs))
unfolding mark_at
mark-right bs =
    by_bool (begins (opener comment) (60 ∷ bs)) (λ e. rw e (skip-right comment (60 ∷ bs) e))
    (λ c. rw c (by_bool (begins (opener charData) (60 ∷ bs)) (λ e. rw e (skip-right charData (60 ∷ bs) e))
    (λ s. rw s (by_bool (begins (opener instruction) (60 ∷ bs)) (λ e. rw e (skip-right instruction (60 ∷ bs) e))
    (λ i. rw i (by_bool (begins (60 ∷ 47 ∷ []) (60 ∷ bs))
    (λ e. rw e (subst (λ x. IfFound (Right x) (end_tag_at (drop 1 bs))) (sym (begins-is (60 ∷ 47 ∷ []) (60 ∷ bs) e)) (end-right (drop 1 bs))))
    (λ e. rw e (tag-right bs (no-instruction bs i)))))))))

-- a byte of the class begins a stretch
front-some : (of : ℕ → Bool) (b : ℕ) (bs : List ℕ) → of b ≡ true → front of (b ∷ bs) ≡ [] → ⊥
unfolding front
front-some of b bs h e = cons≢nil (rw h at e)

-- text
text-right : (b : ℕ) (bs : List ℕ) → text_byte b ≡ true → Text (front text_byte (b ∷ bs)) (b ∷ bs) (behind text_byte (b ∷ bs))
text-right b bs h =
    record {
      some_byte = front-some text_byte b bs h;
      whole = every_front text_byte (b ∷ bs);
      ends = behind-begins text_byte (b ∷ bs);
      written = front-behind text_byte (b ∷ bs);
    }

-- of any bytes
item-right : (b : ℕ) (bs : List ℕ) → IfFound (Right (b ∷ bs)) (item_at (b ∷ bs))
unfolding text_byte
item-right b bs =
    by_bool (text_byte b) (λ h. rw (at-text b bs h) (text-right b bs h))
    (λ h. subst (λ c. IfFound (Right (c ∷ bs)) (item_at (c ∷ bs))) (sym (eqb-true b 60 (not-false (eqb b 60) h))) (rw (at_mark bs) (mark-right bs)))

-- what is found is the item that the bytes begin with
pub found-leading : (b : ℕ) (bs : List ℕ) (i : Item) (rest : List ℕ) → item_at (b ∷ bs) ≡ some (i, rest) → Leading i (b ∷ bs) rest
found-leading b bs i rest e = subst (IfFound (Right (b ∷ bs))) e (item-right b bs)

-- ---- an item is found

-- text is found
text-found : (words rest : List ℕ) → (words ≡ [] → ⊥) → every text_byte words ≡ true → FirstByte (λ b. not (text_byte b)) rest
    → item_at (words ++ rest) ≡ some (text words, rest)
unfolding every
text-found [] rest n h k = absurd (n refl)
text-found (b ∷ words) rest n h k =
    at-text b (words ++ rest) (and_both (text_byte b) (every text_byte words) h).0
    ∙ rw (front-stretch text_byte (b ∷ words) rest h k, behind-stretch text_byte (b ∷ words) rest h k)

-- the item that the bytes begin with is found
pub leading-found : (i : Item) (bs rest : List ℕ) → Leading i bs rest → item_at bs ≡ some (i, rest)
leading-found (start name) bs rest t = rw t.written (at_tag name _ t.name-right t.not_skipped ∙ tag-found false name bs rest t)
leading-found (close name) bs rest t = rw t.written (at-end _ ∙ end-found name t.space rest t.name-right t.blank)
leading-found empty bs rest (name, t) = rw t.written (at_tag name _ t.name-right t.not_skipped ∙ tag-found true name bs rest t)
leading-found (text words) bs rest t = rw t.written (text-found words rest t.some_byte t.whole t.ends)
leading-found skipped bs rest t = rw t.written (at-skip t.kind _ ∙ skip-found t.kind t.body rest t.first)

-- ---- items of bytes

-- no item begins where no byte is left
leading-not-nothing : (i : Item) (rest : List ℕ) → Leading i [] rest → ⊥
leading-not-nothing (start name) rest t = nil≢cons t.written
leading-not-nothing (close name) rest t = nil≢cons t.written
leading-not-nothing empty rest t = nil≢cons t.1.written
leading-not-nothing (text words) rest t = go words t.some_byte t.written
  where
    go : (words : List ℕ) → (words ≡ [] → ⊥) → [] ≡ words ++ rest → ⊥
    go [] n e = n refl
    go (b ∷ words) n e = nil≢cons e
leading-not-nothing skipped rest t = go t.kind t.written
  where
    go : (k : Skip) → [] ≡ opener k ++ (t.body ++ (closer t.kind ++ rest)) → ⊥
    go comment e = unfold opener in nil≢cons e
    go instruction e = unfold opener in nil≢cons e
    go charData e = unfold opener in nil≢cons e

-- the items of the relation are those of the function
reads-found : (items : List Item) (bs : List ℕ) → Reads bs items → reads_as bs ≡ some items
unfolding Option-elim one_more
reads-found [] bs e = rw e reads_nothing
reads-found (i ∷ items) [] r = absurd (leading-not-nothing i r.0 r.1)
reads-found (i ∷ items) (b ∷ bs) r = reads-step b bs ∙ rw (leading-found i (b ∷ bs) r.0 r.1, reads-found items r.0 r.2)

-- the first item and the others
after_first : (i j : Item) (o : Option (List Item)) (items : List Item) → one_more i o ≡ some (j ∷ items) → (i ≡ j) × (o ≡ some items)
unfolding one_more
after_first i j none items e = absurd (some-ne-none _ (sym e))
after_first i j (some others) items e =
    let both : Path (List Item) (i ∷ others) (j ∷ items) = some-injective _ _ e in
    (head-eq_of_cons-eq both, ap some (tail-eq_of_cons-eq both))

-- at least one
after-some : (i : Item) (o : Option (List Item)) → one_more i o ≡ some [] → ⊥
unfolding one_more
after-some i none e = some-ne-none _ (sym e)
after-some i (some others) e = cons≢nil (some-injective _ _ e)

-- the first item is found, and the others are those of what stands behind it
first-item : (o : Found) (i : Item) (items : List Item) → Option-elim o none (λ f. one_more f.0 (reads_as f.1)) ≡ some (i ∷ items)
    → (rest : List ℕ) × (o ≡ some (i, rest)) × (reads_as rest ≡ some items)
unfolding Option-elim
first-item none i items e = absurd (some-ne-none _ (sym e))
first-item (some f) i items e = let a = after_first f.0 i (reads_as f.1) items e in (f.1, ap (λ x. some (x, f.1)) a.0, a.1)

-- bytes that begin with an item read as at least one
some_item : (o : Found) → Option-elim o none (λ f. one_more f.0 (reads_as f.1)) ≡ some [] → ⊥
unfolding Option-elim
some_item none e = some-ne-none _ (sym e)
some_item (some f) e = after-some f.0 (reads_as f.1) e

-- the items of the function are those of the relation
found-reads : (items : List Item) (bs : List ℕ) → reads_as bs ≡ some items → Reads bs items
found-reads [] [] e = refl
found-reads [] (b ∷ bs) e = absurd (some_item (item_at (b ∷ bs)) (sym (reads-step b bs) ∙ e))
found-reads (i ∷ items) [] e = absurd (nil≢cons (some-injective _ _ (sym reads_nothing ∙ e)))
found-reads (i ∷ items) (b ∷ bs) e =
    let f = first-item (item_at (b ∷ bs)) i items (sym (reads-step b bs) ∙ e) in
    (f.0, found-leading b bs i f.0 f.1, found-reads items f.0 f.2)

-- bytes read as these items exactly where the function says so
pub reads-iff : (bs : List ℕ) (items : List Item) → Reads bs items ↔ (reads_as bs ≡ some items)
reads-iff bs items = (reads-found items bs, found-reads items bs)

-- bytes read as these items or as none
pub reads-one : (bs : List ℕ) (a b : List Item) → Reads bs a → Reads bs b → a ≡ b
reads-one bs a b r s = some-injective _ _ (sym (reads-found a bs r) ∙ reads-found b bs s)
