-- The markup of a sub-block's metadata: the items that its bytes read as. It is said twice: `Reads` is a relation with
-- a rule for each kind of item; `readsAs` is a function, the one that `isContainer` (specs/Container) goes by. They agree and leave no choice
-- (proofs/Markup). Bytes by their numbers: white space 9, 10, 13, 32; `!` 33, `"` 34, `'` 39, `-` 45, `/` 47, `<` 60, `>` 62, `?` 63, `[` 91, `]` 93;
-- CDATA 67, 68, 65, 84, 65.
use Rattle.std.specs.Prelude.{ℕ, zero, suc, ◌≡◌, List, [], ◌∷◌, ◌++◌, Bool, true, false, cond, not, ◌&&◌, length, drop, eqb}
use Rattle.std.proofs.Math.Option.{Option, none, some, Option-elim}
use Rattle.format.specs.Bytes.{any_of}

-- start and end tag by their names, empty-element tag, text by its bytes, skipped part
pub data Item : Type 0 where
  start : List ℕ → Item
  close : List ℕ → Item
  empty : Item
  text : List ℕ → Item
  skipped : Item

-- ---- classes of bytes

-- white space
unfoldable pub white : ℕ → Bool
white b = any_of (eqb b 9 ∷ eqb b 10 ∷ eqb b 13 ∷ eqb b 32 ∷ [])

-- a tag's name ends before white space, `/` or `>`, and `<` stands in none
unfoldable pub name_byte : ℕ → Bool
name_byte b = not (any_of (white b ∷ eqb b 47 ∷ eqb b 62 ∷ eqb b 60 ∷ []))

-- all but `<`
unfoldable pub text_byte : ℕ → Bool
text_byte b = not (eqb b 60)

unfoldable pub quote : ℕ → Bool
quote b = any_of (eqb b 34 ∷ eqb b 39 ∷ [])

-- between the name of a start tag or an empty-element tag and its `>`, outside quotes: neither a quote nor `<` nor `>`
unfoldable pub bare_byte : ℕ → Bool
bare_byte b = not (any_of (quote b ∷ eqb b 60 ∷ eqb b 62 ∷ []))

-- each byte is of the class
unfoldable pub every : (ℕ → Bool) → List ℕ → Bool
every of [] = true
every of (b ∷ bs) = of b && every of bs

-- ---- the relation

-- the first byte, if there is one, is of the class
abbrev pub FirstByte : (ℕ → Bool) → List ℕ → Type 0
FirstByte of [] = Unit
FirstByte of (b ∷ bs) = of b ≡ true

-- a name is not empty, and not begun with `!`
unfoldable pub begins_name : List ℕ → Bool
begins_name [] = false
begins_name (b ∷ bs) = not (eqb b 33)

pub record Name (name : List ℕ) : Type 0 where
  pub named : begins_name name ≡ true
  pub whole : every name_byte name ≡ true

-- what stands between a start tag's name, or an empty-element tag's, and its `>`: bytes outside quotes, and quoted stretches, by the quote and what
-- it encloses
pub data Inside : Type 0 where
  bare : ℕ → Inside
  quoted : ℕ → List ℕ → Inside

-- as they are written
abbrev pub spelled : List Inside → List ℕ
spelled [] = []
spelled (bare b ∷ rest) = b ∷ spelled rest
spelled (quoted q bs ∷ rest) = q ∷ bs ++ (q ∷ spelled rest)

-- a byte outside quotes is such a byte, and a quote encloses no quote of its kind
abbrev pub Quoting : List Inside → Type 0
Quoting [] = Unit
Quoting (bare b ∷ rest) = (bare_byte b ≡ true) × Quoting rest
Quoting (quoted q bs ∷ rest) = (quote q ≡ true) × (every (λ b. not (eqb b q)) bs ≡ true) × Quoting rest

-- the last byte is `/`
unfoldable pub slashed : List ℕ → Bool
slashed [] = false
slashed (b ∷ []) = eqb b 47
slashed (b ∷ c ∷ bs) = slashed (c ∷ bs)

-- a start tag, or an empty-element tag, in which `/` stands just before its `>`. `<?` begins neither
pub record Tag (is_empty : Bool) (name bs rest : List ℕ) : Type 0 where
  pub name-right : Name name
  pub not_skipped : FirstByte (λ b. not (eqb b 63)) name
  pub inside : List Inside
  pub parted : FirstByte (λ b. not (name_byte b)) (spelled inside)
  pub quoting : Quoting inside
  pub ends : slashed (spelled inside) ≡ is_empty
  pub written : bs ≡ 60 ∷ name ++ (spelled inside ++ (62 ∷ rest))

-- an end tag has at most white space after its name
pub record EndTag (name bs rest : List ℕ) : Type 0 where
  pub name-right : Name name
  pub space : List ℕ
  pub blank : every white space ≡ true
  pub written : bs ≡ 60 ∷ 47 ∷ name ++ (space ++ (62 ∷ rest))

-- text reaches to the next `<`, or to the end
pub record Text (words bs rest : List ℕ) : Type 0 where
  pub some_byte : words ≡ [] → ⊥
  pub whole : every text_byte words ≡ true
  pub ends : FirstByte (λ b. not (text_byte b)) rest
  pub written : bs ≡ words ++ rest

-- a comment, `<!--` to `-->`; `<?` to `?>`; a character-data section, `<![CDATA[` to `]]>`
pub data Skip : Type 0 where
  comment instruction charData : Skip

unfoldable pub opener : Skip → List ℕ
opener comment = 60 ∷ 33 ∷ 45 ∷ 45 ∷ []
opener instruction = 60 ∷ 63 ∷ []
opener charData = 60 ∷ 33 ∷ 91 ∷ 67 ∷ 68 ∷ 65 ∷ 84 ∷ 65 ∷ 91 ∷ []

unfoldable pub closer : Skip → List ℕ
closer comment = 45 ∷ 45 ∷ 62 ∷ []
closer instruction = 63 ∷ 62 ∷ []
closer charData = 93 ∷ 93 ∷ 62 ∷ []

-- it ends with the first closer behind its opener
pub record Skipped (bs rest : List ℕ) : Type 0 where
  pub kind : Skip
  pub body : List ℕ
  pub written : bs ≡ opener kind ++ (body ++ (closer kind ++ rest))
  pub first : (before after : List ℕ) → body ++ closer kind ≡ before ++ (closer kind ++ after) → after ≡ []

-- bs begin with the item, and rest stands behind it
abbrev pub Leading : Item → List ℕ → List ℕ → Type 0
Leading (start name) bs rest = Tag false name bs rest
Leading (close name) bs rest = EndTag name bs rest
Leading empty bs rest = (name : List ℕ) × Tag true name bs rest
Leading (text words) bs rest = Text words bs rest
Leading skipped bs rest = Skipped bs rest

-- bs read as these items
abbrev pub Reads : List ℕ → List Item → Type 0
Reads bs [] = bs ≡ []
Reads bs (i ∷ items) = (rest : List ℕ) × Leading i bs rest × Reads rest items

-- ---- the function

-- the bytes before the first that is not of the class, and those from it on
unfoldable pub front : (ℕ → Bool) → List ℕ → List ℕ
front of [] = []
front of (b ∷ bs) = cond (of b) (b ∷ front of bs) []

unfoldable pub behind : (ℕ → Bool) → List ℕ → List ℕ
behind of [] = []
behind of (b ∷ bs) = cond (of b) (behind of bs) (b ∷ bs)

-- bs begin with xs
unfoldable pub begins : List ℕ → List ℕ → Bool
begins [] bs = true
begins (x ∷ xs) [] = false
begins (x ∷ xs) (b ∷ bs) = eqb b x && begins xs bs

-- what stands behind the first xs, which are not empty
unfoldable pub behind_first : List ℕ → List ℕ → Option (List ℕ)
behind_first xs [] = none
behind_first xs (b ∷ bs) = cond (begins xs (b ∷ bs)) (some (drop (length xs) (b ∷ bs))) (behind_first xs bs)

-- the quote that is open after a byte, by the one that was before it; 0 outside quotes
unfoldable pub quote_after : ℕ → ℕ → ℕ
quote_after q b = cond (eqb q 0) (cond (quote b) b 0) (cond (eqb b q) 0 q)

-- from behind a tag's name on, by the quote that is open and the last byte since the name, 0 where there is none: whether the tag is empty, and what
-- stands behind its `>`; none where it breaks off or `<` stands outside quotes
unfoldable pub behind_tag : ℕ → ℕ → List ℕ → Option (Bool × List ℕ)
behind_tag q last [] = none
behind_tag q last (b ∷ bs) =
    cond (eqb q 0 && eqb b 62) (some (eqb last 47, bs))
    (cond (eqb q 0 && eqb b 60) none
    (behind_tag (quote_after q b) b bs))

-- an item, and what stands behind it
abbrev pub Found : Type 0
Found = Option (Item × List ℕ)

-- from behind `<` on
unfoldable pub tag_at : List ℕ → Found
tag_at bs =
    cond (begins_name (front name_byte bs))
    (Option-elim (behind_tag 0 0 (behind name_byte bs)) none (λ t. some (cond t.0 empty (start (front name_byte bs)), t.1)))
    none

-- white space is behind: `>` must follow
unfoldable pub closed : List ℕ → List ℕ → Found
closed name [] = none
closed name (b ∷ bs) = cond (eqb b 62) (some (close name, bs)) none

-- from behind `</` on
unfoldable pub end_tag_at : List ℕ → Found
end_tag_at bs = cond (begins_name (front name_byte bs)) (closed (front name_byte bs) (behind white (behind name_byte bs))) none

-- the skipped part whose opener bs begin with
unfoldable pub skip_at : Skip → List ℕ → Found
skip_at k bs = Option-elim (behind_first (closer k) (drop (length (opener k)) bs)) none (λ rest. some (skipped, rest))

-- the item that bs, which begin with `<`, begin with
unfoldable pub mark_at : List ℕ → Found
mark_at bs =
    cond (begins (opener comment) bs) (skip_at comment bs)
    (cond (begins (opener charData) bs) (skip_at charData bs)
    (cond (begins (opener instruction) bs) (skip_at instruction bs)
    (cond (begins (60 ∷ 47 ∷ []) bs) (end_tag_at (drop 2 bs))
    (tag_at (drop 1 bs)))))

-- the item that bs, which are not empty, begin with; none where none begins so
unfoldable pub item_at : List ℕ → Found
item_at bs =
    cond (begins (60 ∷ []) bs) (mark_at bs)
    (some (text (front text_byte bs), behind text_byte bs))

-- no item where no byte is left, else these
unfoldable pub or_none : List ℕ → Option (List Item) → Option (List Item)
or_none [] items = some []
or_none (b ∷ bs) items = items

-- one item more
unfoldable pub one_more : Item → Option (List Item) → Option (List Item)
one_more i none = none
one_more i (some items) = some (i ∷ items)

-- the items that bs read as; none where they don't read, or as more than n
unfoldable pub read_from : ℕ → List ℕ → Option (List Item)
read_from zero bs = or_none bs none
read_from (suc n) bs = or_none bs (Option-elim (item_at bs) none (λ i. one_more i.0 (read_from n i.1)))

unfoldable pub reads_as : List ℕ → Option (List Item)
reads_as bs = read_from (length bs) bs
