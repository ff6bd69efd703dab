-- Metadata declare a container where `declares` says so: the relations `Declares` and `Container` and the functions agree. Assumes nothing.
use Prim.Native.Nat.{ℕ}
use mathlib.Core.Path.{◌≡◌, refl, sym, ◌∙◌, subst}
use mathlib.Core.Logic.{◌↔◌, inl, inr}
use mathlib.Core.List.{List, [], ◌∷◌}
use mathlib.Core.Bool.{true, false, ◌&&◌, ◌||◌, or-true, or-false, true≢false}
use mathlib.Core.Option.{Option, none, some, Option-elim}
use lib.Dec.{eqb}
use Rattle.format.specs.Bytes.{part_of}
use Rattle.format.specs.Names.{tag_metadata, tag_schema, tag_format, text_container}
use Rattle.format.specs.Markup.{Item, reads_as}
use Rattle.format.specs.Container.{Nodes, nothing, words, empty_tag, passed, element, Child, Declares, Container}
use Rattle.format.specs.Container.{same_bytes, in_section, start_stage, text_stage, declares, is_container}
use Rattle.format.proofs.Below.{by_bool, and_both}
use Rattle.format.proofs.Markup.{reads-iff}
use Rattle.format.proofs.Nesting.{same-own, same-is, stage_of, is_section, has_section, nodes-end, ends-nodes}

-- ---- the section

-- nothing comes of stage 0
stage-none : (c : Nodes) → stage_of 0 c ≡ 0
unfolding stage_of text_stage
stage-none nothing = refl
stage-none (words bs c) = stage-none c
stage-none (empty_tag c) = stage-none c
stage-none (passed c) = stage-none c
stage-none (element name inner c) = stage-none c

-- so the section has not ended
not-ended : (c : Nodes) → eqb (stage_of 0 c) 2 ≡ true → ⊥
not-ended c e = true≢false (sym e ∙ rw (stage-none c))

-- behind the text stands nothing
ended-text : (c : Nodes) → eqb (stage_of 2 c) 2 ≡ true → c ≡ nothing
unfolding stage_of text_stage
ended-text nothing e = refl
ended-text (words bs c) e = absurd (not-ended c e)
ended-text (empty_tag c) e = absurd (not-ended c e)
ended-text (passed c) e = absurd (not-ended c e)
ended-text (element name inner c) e = absurd (not-ended c e)

-- behind the last start tag stands the text alone
ended-tag : (c : Nodes) → eqb (stage_of 1 c) 2 ≡ true → c ≡ words text_container nothing
unfolding stage_of text_stage
ended-tag nothing e = absurd (true≢false (sym e))
ended-tag (words bs c) e =
    by_bool (same_bytes bs text_container)
    (λ s. λ i. words (same-is bs text_container s i) (ended-text c (rw s at e) i))
    (λ s. absurd (not-ended c (rw s at e)))
ended-tag (empty_tag c) e = absurd (not-ended c e)
ended-tag (passed c) e = absurd (not-ended c e)
ended-tag (element name inner c) e = absurd (not-ended c e)

-- an element that is the section has its three names open and its text alone
section-is : (names : List (List ℕ)) (inner : Nodes) → is_section names inner ≡ true → (in_section names ≡ true) × (inner ≡ words text_container nothing)
unfolding is_section start_stage
section-is names inner e =
    by_bool (in_section names) (λ s. (s, ended-tag inner (rw s at e))) (λ s. absurd (not-ended inner (rw s at e)))

-- an element with them is the section
is-section : (names : List (List ℕ)) → in_section names ≡ true → is_section names (words text_container nothing) ≡ true
unfolding is_section stage_of start_stage text_stage
is-section names e = rw (e, same-own text_container)

-- ---- in which element it stands

-- an element of that name with those nodes is the section, or holds it
abbrev Holds : List (List ℕ) → List ℕ → Nodes → Type 0
Holds names name inner = (has_section (name ∷ names) inner || is_section (name ∷ names) inner) ≡ true

-- nodes that hold the section have an element that is it or holds it
in-child : (names : List (List ℕ)) (c : Nodes) → has_section names c ≡ true
    → (name : List ℕ) × (inner : Nodes) × Child name inner c × Holds names name inner
unfolding has_section
in-child names nothing e = absurd (true≢false (sym e))
in-child names (words bs c) e = in-child names c e
in-child names (empty_tag c) e = in-child names c e
in-child names (passed c) e = in-child names c e
in-child names (element name inner c) e =
    by_bool (has_section (name ∷ names) inner || is_section (name ∷ names) inner)
    (λ h. (name, inner, inl (refl, refl), h))
    (λ h. let x = in-child names c (rw h at e) in (x.0, x.1, inr x.2, x.3))

-- an element that is the section or holds it makes the nodes hold it
child-in : (names : List (List ℕ)) (c : Nodes) (name : List ℕ) (inner : Nodes) → Child name inner c → Holds names name inner → has_section names c ≡ true
unfolding has_section
child-in names nothing name inner h e = absurd h
child-in names (words bs c) name inner h e = child-in names c name inner h e
child-in names (empty_tag c) name inner h e = child-in names c name inner h e
child-in names (passed c) name inner h e = child-in names c name inner h e
child-in names (element n d c) name inner (inl h) e = rw (h.0, h.1, e)
child-in names (element n d c) name inner (inr h) e = rw (child-in names c name inner h e) (or-true (has_section (n ∷ names) d || is_section (n ∷ names) d))

-- ---- where the section stands

-- nothing deeper than three open tags holds it
deep : (a b c : List ℕ) (names : List (List ℕ)) (x : Nodes) → has_section (a ∷ b ∷ c ∷ names) x ≡ false
unfolding has_section is_section start_stage in_section
deep a b c names nothing = refl
deep a b c names (words bs x) = deep a b c names x
deep a b c names (empty_tag x) = deep a b c names x
deep a b c names (passed x) = deep a b c names x
deep a b c names (element n d x) = rw (deep n a b (c ∷ names) d, stage-none d) (deep a b c names x)

-- an element that is not the section holds it
inner-holds : (names : List (List ℕ)) (name : List ℕ) (inner : Nodes) → in_section (name ∷ names) ≡ false → Holds names name inner
    → has_section (name ∷ names) inner ≡ true
unfolding is_section start_stage
inner-holds names name inner s e =
    let n : is_section (name ∷ names) inner ≡ false = rw (s, stage-none inner) in
    sym (or-false (has_section (name ∷ names) inner)) ∙ (rw n at e)

-- the three names of the open tags
own-names : in_section (tag_format ∷ tag_schema ∷ tag_metadata ∷ []) ≡ true
unfolding in_section
own-names = rw (same-own tag_format, same-own tag_schema, same-own tag_metadata)

-- open tags that are the section's three
names-are : (f s m : List ℕ) → in_section (f ∷ s ∷ m ∷ []) ≡ true → (f ≡ tag_format) × (s ≡ tag_schema) × (m ≡ tag_metadata)
unfolding in_section
names-are f s m e =
    let a = and_both (same_bytes f tag_format && same_bytes s tag_schema) (same_bytes m tag_metadata) e in
    let b = and_both (same_bytes f tag_format) (same_bytes s tag_schema) a.0 in
    (same-is f tag_format b.0, same-is s tag_schema b.1, same-is m tag_metadata a.1)

-- the section's three elements
record Section (c : Nodes) : Type 0 where
  metadata : Nodes
  schema : Nodes
  outermost : Child tag_metadata metadata c
  second : Child tag_schema schema metadata
  last : Child tag_format (words text_container nothing) schema

-- nodes with the section's three elements hold it
has-section : (c : Nodes) → Section c → has_section [] c ≡ true
has-section c x =
    let inner : Nodes = words text_container nothing in
    let names : List (List ℕ) = tag_schema ∷ tag_metadata ∷ [] in
    let a : Holds names tag_format inner = rw (is-section (tag_format ∷ names) own-names) (or-true (has_section (tag_format ∷ names) inner)) in
    let b : Holds (tag_metadata ∷ []) tag_schema x.schema = rw (child-in names x.schema tag_format inner x.last a) in
    let d : Holds [] tag_metadata x.metadata = rw (child-in (tag_metadata ∷ []) x.metadata tag_schema x.schema x.second b) in
    child-in [] c tag_metadata x.metadata x.outermost d

-- nodes that hold the section have its three elements
section-in : (c : Nodes) → has_section [] c ≡ true → Section c
section-in c e =
    let a = in-child [] c e in
    let b = in-child (a.0 ∷ []) a.1 (inner-holds [] a.0 a.1 (unfold in_section in refl) a.3) in
    let d = in-child (b.0 ∷ a.0 ∷ []) b.1 (inner-holds (a.0 ∷ []) b.0 b.1 (unfold in_section in refl) b.3) in
    let s = section-is (d.0 ∷ b.0 ∷ a.0 ∷ []) d.1 (rw (deep d.0 b.0 a.0 [] d.1) at d.3) in
    let n = names-are d.0 b.0 a.0 s.0 in
    record {
      metadata = a.1;
      schema = b.1;
      outermost = subst (λ m. Child m a.1 c) n.2 a.2;
      second = subst (λ m. Child m b.1 a.1) n.1 b.2;
      last = subst (λ x. Child tag_format x b.1) s.1 (subst (λ m. Child m d.1 b.1) n.0 d.2);
    }

-- ---- metadata

-- items that the function takes declare a container
declared : (items : List Item) → declares items ≡ true → Declares items
unfolding declares
declared items e =
    let n = ends-nodes items e in
    let x = section-in n.0 (sym (nodes-end n.0 n.2) ∙ (rw n.1 at e)) in
    record {
      nodes = n.0;
      nests = n.1;
      few = n.2;
      metadata = x.metadata;
      schema = x.schema;
      outermost = x.outermost;
      second = x.second;
      last = x.last;
    }

-- items that declare a container are taken by the function
declaring : (items : List Item) → Declares items → declares items ≡ true
unfolding declares
declaring items d =
    let s : Section d.nodes =
    record { metadata = d.metadata; schema = d.schema; outermost = d.outermost; second = d.second; last = d.last } in
    rw d.nests (nodes-end d.nodes d.few ∙ has-section d.nodes s)

-- items declare a container exactly where the function says so
pub declares-iff : (items : List Item) → Declares items ↔ (declares items ≡ true)
declares-iff items = (declaring items, declared items)

-- bytes whose items the function takes declare a container
read-declares : (bs : List ℕ) (o : Option (List Item)) → reads_as bs ≡ o → Option-elim o false declares ≡ true → Container bs
unfolding Option-elim
read-declares bs none r e = absurd (true≢false (sym e))
read-declares bs (some items) r e = record { items = items; reads = (reads-iff bs items).1 r; declared = declared items e }

-- the bytes of metadata declare a container exactly where the function says so
pub container-iff : (bs : List ℕ) (p n : ℕ) → Container (part_of bs p n) ↔ (is_container bs p n ≡ true)
unfolding is_container Option-elim
container-iff bs p n = (
  λ c. rw ((reads-iff (part_of bs p n) c.items).0 c.reads) (declaring c.items c.declared),
  λ e. read-declares (part_of bs p n) (reads_as (part_of bs p n)) refl e,
)
