-- Items end well exactly where they are those of nodes that nest, at most 64 deep, with a container's section in them. Assumes nothing.
use Prim.Native.Nat.{ℕ, zero, suc, ◌+◌}
use mathlib.Core.Path.{◌≡◌, refl, sym, ◌∙◌, ap}
use mathlib.Core.List.{List, [], ◌∷◌, ◌++◌, append-nil, append_assoc}
use mathlib.Core.Bool.{Bool, true, false, ◌||◌, or-false, or_assoc, true≢false}
use native.Mathlib.Omega.{arith}
use lib.ListN.{length}
use lib.Dec.{eqb}
use borrow.Author.Tests.{lt-ltb, le-ltb, eq-eqb, eqb-true}
use Rattle.format.specs.Markup.{Item, start, close, empty, text, skipped}
use Rattle.format.specs.Container.{Nodes, nothing, words, empty_tag, passed, element, items_of, AtMost}
use Rattle.format.specs.Container.{same_bytes, start_stage, text_stage, ends_well}
use Rattle.format.proofs.Below.{by_bool, and_both}

-- ---- byte strings

-- a byte string is the same as itself
pub same-own : (xs : List ℕ) → same_bytes xs xs ≡ true
unfolding same_bytes
same-own [] = refl
same-own (x ∷ xs) = rw (eq-eqb x x refl) (same-own xs)

-- byte strings that are the same are equal
pub same-is : (xs ys : List ℕ) → same_bytes xs ys ≡ true → xs ≡ ys
unfolding same_bytes
same-is [] [] e = refl
same-is [] (y ∷ ys) e = absurd (true≢false (sym e))
same-is (x ∷ xs) [] e = absurd (true≢false (sym e))
same-is (x ∷ xs) (y ∷ ys) e =
    let both = and_both (eqb x y) (same_bytes xs ys) e in
    λ i. eqb-true x y both.0 i ∷ same-is xs ys both.1 i

-- ---- what nodes do

-- how much of the section's end has come after them
unfoldable pub stage_of : ℕ → Nodes → ℕ
stage_of stage nothing = stage
stage_of stage (words bs c) = stage_of (text_stage stage bs) c
stage_of stage (empty_tag c) = stage_of 0 c
stage_of stage (passed c) = stage_of 0 c
stage_of stage (element name inner c) = stage_of 0 c

-- an element is the section: the names of the open tags, its own first, and its nodes
unfoldable pub is_section : List (List ℕ) → Nodes → Bool
is_section names inner = eqb (stage_of (start_stage names) inner) 2

-- there is a section in them
unfoldable pub has_section : List (List ℕ) → Nodes → Bool
has_section names nothing = false
has_section names (words bs c) = has_section names c
has_section names (empty_tag c) = has_section names c
has_section names (passed c) = has_section names c
has_section names (element name inner c) = has_section (name ∷ names) inner || is_section (name ∷ names) inner || has_section names c

-- the items of nodes are passed
nodes-passed : (c : Nodes) (k : ℕ) (found : Bool) (stage : ℕ) (names : List (List ℕ)) (rest : List Item) → AtMost k c → length names + k ≡ 64
    → ends_well found stage names (items_of c ++ rest) ≡ ends_well (found || has_section names c) (stage_of stage c) names rest
unfolding ends_well stage_of is_section has_section
nodes-passed nothing k found stage names rest h l = rw (or-false found)
nodes-passed (words bs c) k found stage names rest h l = nodes-passed c k found _ names rest h l
nodes-passed (empty_tag c) k found stage names rest h l = nodes-passed c k found 0 names rest h l
nodes-passed (passed c) k found stage names rest h l = nodes-passed c k found 0 names rest h l
nodes-passed (element name inner c) zero found stage names rest h l = absurd h
nodes-passed (element name inner c) (suc k) found stage names rest h l =
    let s : ℕ = start_stage (name ∷ names) in
    let x : Bool = has_section (name ∷ names) inner in
    let y : Bool = is_section (name ∷ names) inner in
    rw (lt-ltb (length names) 64 (omega arith), append_assoc (items_of inner) (close name ∷ items_of c) rest)
    (nodes-passed inner k found s (name ∷ names) (close name ∷ items_of c ++ rest) h.0 (omega arith)
    ∙ rw (same-own name) (nodes-passed c (suc k) (found || x || y) 0 names rest h.1 l
    ∙ ap (λ f. ends_well f (stage_of 0 c) names rest) (ap (λ z. z || has_section names c) (or_assoc found x y) ∙ or_assoc found (x || y) (has_section names c))))

-- nodes end well exactly where a section is in them
pub nodes-end : (c : Nodes) → AtMost 64 c → ends_well false 0 [] (items_of c) ≡ has_section [] c
nodes-end c h = ap (ends_well false 0 []) (sym (append-nil (items_of c))) ∙ nodes-passed c 64 false 0 [] [] h refl ∙ unfold ends_well in refl

-- ---- items that end well are those of nodes

-- nodes, and for each open tag, innermost first, its end tag and nodes again; at most k more start tags are open at once in the first
abbrev Nested : ℕ → List (List ℕ) → List Item → Type 0
Nested k [] items = (c : Nodes) × (items ≡ items_of c) × AtMost k c
Nested k (n ∷ names) items = (c : Nodes) × (rest : List Item) × (items ≡ items_of c ++ (close n ∷ rest)) × AtMost k c × Nested (suc k) names rest

-- one node more
nested-more : (k : ℕ) (names : List (List ℕ)) (rest front : List Item) (more : Nodes → Nodes) → ((c : Nodes) → front ++ items_of c ≡ items_of (more c))
    → ((c : Nodes) → AtMost k c → AtMost k (more c)) → Nested k names rest → Nested k names (front ++ rest)
nested-more k [] rest front more e h n = (more n.0, ap (λ r. front ++ r) n.1 ∙ e n.0, h n.0 n.2)
nested-more k (name ∷ names) rest front more e h n = (
  more n.0,
  n.1,
  ap (λ r. front ++ r) n.2 ∙ sym (append_assoc front (items_of n.0) (close name ∷ n.1)) ∙ ap (λ r. r ++ (close name ∷ n.1)) (e n.0),
  h n.0 n.3,
  n.4,
)

-- an element more
nested-element : (k : ℕ) (name : List ℕ) (names : List (List ℕ)) (items : List Item) → Nested k (name ∷ names) items → Nested (suc k) names (start name ∷ items)
nested-element k name names items n =
    let inner : Nodes = n.0 in
    rw (n.2, sym (append_assoc (items_of inner) (close name ∷ []) n.1))
    (nested-more (suc k) names n.1 (start name ∷ items_of inner ++ (close name ∷ [])) (element name inner)
    (λ c. ap (λ r. start name ∷ r) (append_assoc (items_of inner) (close name ∷ []) (items_of c)))
    (λ c h. (n.3, h)) n.4)

-- what ends well nests
nested : (items : List Item) (found : Bool) (stage : ℕ) (names : List (List ℕ)) (k : ℕ) → length names + k ≡ 64
    → ends_well found stage names items ≡ true → Nested k names items
unfolding ends_well
nested [] found stage [] k l e = (nothing, refl, tt)
nested [] found stage (n ∷ names) k l e = absurd (true≢false (sym e))
nested (start name ∷ items) found stage names zero l e = absurd (true≢false (sym (rw (le-ltb (length names) 64 (omega arith)) at e)))
nested (start name ∷ items) found stage names (suc k) l e =
    nested-element k name names items (nested items found _ (name ∷ names) k (omega arith) (rw (lt-ltb (length names) 64 (omega arith)) at e))
nested (close name ∷ items) found stage [] k l e = absurd (true≢false (sym e))
nested (close name ∷ items) found stage (n ∷ names) k l e =
    by_bool (same_bytes name n)
    (λ s. (nothing, items, ap (λ m. close m ∷ items) (same-is name n s), tt, nested items _ 0 names (suc k) (omega arith) (rw s at e)))
    (λ s. absurd (true≢false (sym (rw s at e))))
nested (empty ∷ items) found stage names k l e =
    nested-more k names items (empty ∷ []) empty_tag (λ c. refl) (λ c h. h) (nested items found 0 names k l e)
nested (text bs ∷ items) found stage names k l e =
    nested-more k names items (text bs ∷ []) (words bs) (λ c. refl) (λ c h. h) (nested items found _ names k l e)
nested (skipped ∷ items) found stage names k l e =
    nested-more k names items (skipped ∷ []) passed (λ c. refl) (λ c h. h) (nested items found 0 names k l e)

-- items that end well are those of nodes
pub ends-nodes : (items : List Item) → ends_well false 0 [] items ≡ true → (c : Nodes) × (items ≡ items_of c) × AtMost 64 c
ends-nodes items e = nested items false 0 [] 64 refl e
