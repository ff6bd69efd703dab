-- Which metadata declare a chunk container: all of them read and nest, with at most 64 tags open at once, and the section stands in them: an outermost
-- METADATA, directly in it AttachmentSchema, directly in that DataFormat, and in that CHUNKCONTAINER alone.
-- It is said twice: `Container` is a relation, by the elements that the items make up; `isContainer` is the function that contracts cite, with the names
-- of the open tags. The two agree (proofs/Declaring).
use Rattle.std.specs.Prelude.{ℕ, zero, suc, ◌≡◌, ◌⊎◌, List, [], ◌∷◌, ◌++◌, Bool, true, false, cond, ◌&&◌, ◌||◌, length, eqb, ltb}
use Rattle.std.proofs.Math.Option.{Option-elim}
use Rattle.format.specs.Bytes.{part_of}
use Rattle.format.specs.Names.{tag_metadata, tag_schema, tag_format, text_container}
use Rattle.format.specs.Markup.{Item, start, close, empty, text, skipped, Reads, reads_as}

-- ---- the relation

-- what stands in an element, or in the whole metadata: nothing, or one thing and what follows it. An element has a name and nodes of its own
pub data Nodes : Type 0 where
  nothing : Nodes
  words : List ℕ → Nodes → Nodes
  empty_tag : Nodes → Nodes
  passed : Nodes → Nodes
  element : List ℕ → Nodes → Nodes → Nodes

-- the items it is written as: tags nest by equal names, and nothing is open at the end
abbrev pub items_of : Nodes → List Item
items_of nothing = []
items_of (words bs c) = text bs ∷ items_of c
items_of (empty_tag c) = empty ∷ items_of c
items_of (passed c) = skipped ∷ items_of c
items_of (element name inner c) = start name ∷ items_of inner ++ (close name ∷ items_of c)

-- at most n start tags are open at once
abbrev pub AtMost : ℕ → Nodes → Type 0
AtMost n nothing = Unit
AtMost n (words bs c) = AtMost n c
AtMost n (empty_tag c) = AtMost n c
AtMost n (passed c) = AtMost n c
AtMost zero (element name inner c) = ⊥
AtMost (suc n) (element name inner c) = AtMost n inner × AtMost (suc n) c

-- directly in c stands an element of that name with those nodes
abbrev pub Child : List ℕ → Nodes → Nodes → Type 0
Child name inner nothing = ⊥
Child name inner (words bs c) = Child name inner c
Child name inner (empty_tag c) = Child name inner c
Child name inner (passed c) = Child name inner c
Child name inner (element n d c) = ((n ≡ name) × (d ≡ inner)) ⊎ Child name inner c

pub record Declares (items : List Item) : Type 0 where
  pub nodes : Nodes
  pub nests : items ≡ items_of nodes
  pub few : AtMost 64 nodes
  pub metadata : Nodes
  pub schema : Nodes
  pub outermost : Child tag_metadata metadata nodes
  pub second : Child tag_schema schema metadata
  pub last : Child tag_format (words text_container nothing) schema

-- the metadata's bytes declare a container
pub record Container (bs : List ℕ) : Type 0 where
  pub items : List Item
  pub reads : Reads bs items
  pub declared : Declares items

-- ---- the function

unfoldable pub same_bytes : List ℕ → List ℕ → Bool
same_bytes [] [] = true
same_bytes [] (y ∷ ys) = false
same_bytes (x ∷ xs) [] = false
same_bytes (x ∷ xs) (y ∷ ys) = eqb x y && same_bytes xs ys

-- the open tags, innermost first, are the section's three
unfoldable pub in_section : List (List ℕ) → Bool
in_section [] = false
in_section (a ∷ []) = false
in_section (a ∷ b ∷ []) = false
in_section (a ∷ b ∷ c ∷ []) = same_bytes a tag_format && same_bytes b tag_schema && same_bytes c tag_metadata
in_section (a ∷ b ∷ c ∷ d ∷ names) = false

-- the stage: 1 just behind the section's last start tag, 2 just behind CHUNKCONTAINER where that is the text that follows it, else 0

-- behind a start tag, which is the first of the open ones
unfoldable pub start_stage : List (List ℕ) → ℕ
start_stage names = cond (in_section names) 1 0

-- behind a text
unfoldable pub text_stage : ℕ → List ℕ → ℕ
text_stage stage bs = cond (eqb stage 1 && same_bytes bs text_container) 2 0

-- whether there was a section, the stage, and the names of the open tags, innermost first: the items that follow close all of them in turn, open none
-- where 64 are open, and there was a section or one ends among them
unfoldable pub ends_well : Bool → ℕ → List (List ℕ) → List Item → Bool
ends_well found stage [] [] = found
ends_well found stage (n ∷ names) [] = false
ends_well found stage names (start name ∷ items) =
    cond (ltb (length names) 64) (ends_well found (start_stage (name ∷ names)) (name ∷ names) items) false
ends_well found stage [] (close name ∷ items) = false
ends_well found stage (n ∷ names) (close name ∷ items) =
    cond (same_bytes name n) (ends_well (found || eqb stage 2) 0 names items) false
ends_well found stage names (empty ∷ items) = ends_well found 0 names items
ends_well found stage names (text bs ∷ items) = ends_well found (text_stage stage bs) names items
ends_well found stage names (skipped ∷ items) = ends_well found 0 names items

unfoldable pub declares : List Item → Bool
declares items = ends_well false 0 [] items

-- the n bytes of metadata from p on declare a container
unfoldable pub is_container : List ℕ → ℕ → ℕ → Bool
is_container bs p n = Option-elim (reads_as (part_of bs p n)) false declares
