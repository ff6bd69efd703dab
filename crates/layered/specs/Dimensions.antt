-- The dimensions of an entry DV that is well formed: paper 01's rule, and as paper 02, Req 10 amends it, without tests.
-- The entry stands at e of the file bs. Signed numbers are compared with 2 ^ 31 added to each.
use Rattle.std.specs.Prelude.{ℕ, ◌+◌, ◌^◌, ◌≤◌, ◌<◌, ◌≡◌, ◌⊎◌, ◌↔◌, List, false}
use Rattle.format.specs.Bytes.{biased}
use Rattle.format.specs.Entry.{dimension_count, dimension_place, letter, start, size, stored_field, dimensions_bad}

-- ---- dimension k, counted from 0

abbrev pub letter_of : List ℕ → ℕ → ℕ → ℕ
letter_of bs e k = letter bs (dimension_place e k)

abbrev pub start_of : List ℕ → ℕ → ℕ → ℕ
start_of bs e k = start bs (dimension_place e k)

abbrev pub size_of : List ℕ → ℕ → ℕ → ℕ
size_of bs e k = size bs (dimension_place e k)

abbrev pub stored_field_of : List ℕ → ℕ → ℕ → ℕ
stored_field_of bs e k = stored_field bs (dimension_place e k)

-- it is X (88) or Y (89)
abbrev pub XOrY : List ℕ → ℕ → ℕ → Type 0
XOrY bs e k = (letter_of bs e k ≡ 88) ⊎ (letter_of bs e k ≡ 89)

-- its stored size is Size: StoredSize is 0, which is read as Size, or equal to it
abbrev pub StoredWhole : List ℕ → ℕ → ℕ → Type 0
StoredWhole bs e k = (stored_field_of bs e k ≡ 0) ⊎ (stored_field_of bs e k ≡ size_of bs e k)

-- ---- its Size, as paper 01 has it: X and Y Size at least 1; every other dimension has Size 1 and stored size 1

pub data SizeSingle (bs : List ℕ) (e k : ℕ) : Type 0 where
  plane : XOrY bs e k → 1 ≤ size_of bs e k → size_of bs e k < 2 ^ 31 → SizeSingle bs e k
  single : (XOrY bs e k → ⊥) → size_of bs e k ≡ 1 → StoredWhole bs e k → SizeSingle bs e k

-- ---- the amendment: one letter besides X, Y, M (77) and S (83) may have Size 2 to 1,024, stored after X and Y, with stored size 0 or equal to Size

-- dimension k has layers
pub record HasLayers (bs : List ℕ) (e k : ℕ) : Type 0 where
  pub within : k < dimension_count bs e
  pub other : XOrY bs e k → ⊥
  pub several : 2 ≤ size_of bs e k

pub record LayersRight (bs : List ℕ) (e k : ℕ) : Type 0 where
  pub other : XOrY bs e k → ⊥
  pub no-m : letter_of bs e k ≡ 77 → ⊥
  pub no-s : letter_of bs e k ≡ 83 → ⊥
  pub several : 2 ≤ size_of bs e k
  pub few : size_of bs e k ≤ 1024
  pub stored : StoredWhole bs e k
  -- Y stands before it, and so does X
  pub after : (j : ℕ) × (j < k) × (letter_of bs e j ≡ 89)
  -- no second one
  pub alone : (j : ℕ) → HasLayers bs e j → j ≡ k

pub data SizeRight (bs : List ℕ) (e k : ℕ) : Type 0 where
  without : SizeSingle bs e k → SizeRight bs e k
  layers : LayersRight bs e k → SizeRight bs e k

-- ---- all dimensions, by the rule for a Size

pub record DimensionsRight (bs : List ℕ) (e : ℕ) (Sized : ℕ → Type 0) : Type 0 where
  -- each letter one of A to Z and three zero bytes
  pub letters : (k : ℕ) → k < dimension_count bs e → (65 ≤ letter_of bs e k) × (letter_of bs e k ≤ 90)
  -- no letter twice
  pub once : (j k : ℕ) → j < dimension_count bs e → k < dimension_count bs e → letter_of bs e j ≡ letter_of bs e k → j ≡ k
  -- X and Y present with X before Y
  pub x_then_y : (i : ℕ) × (j : ℕ) × (i < j) × (j < dimension_count bs e) × (letter_of bs e i ≡ 88) × (letter_of bs e j ≡ 89)
  -- every Start + Size at most 2,147,483,647
  pub ends : (k : ℕ) → k < dimension_count bs e → biased (start_of bs e k) + biased (size_of bs e k) ≤ 2 ^ 32 + 2147483647
  -- StoredSize not negative
  pub not_negative : (k : ℕ) → k < dimension_count bs e → stored_field_of bs e k < 2 ^ 31
  pub sizes : (k : ℕ) → k < dimension_count bs e → Sized k

-- the dimensions are not refused exactly where they are right
abbrev pub AllDimensions : Type 0
AllDimensions = (bs : List ℕ) (e : ℕ) → (dimensions_bad bs e ≡ false) ↔ DimensionsRight bs e (SizeRight bs e)

-- and where no dimension has layers exactly by paper 01's rule: the amendment adds entries with layers, and changes nothing else
abbrev pub LacksLayers : List ℕ → ℕ → Type 0
LacksLayers bs e = (k : ℕ) → HasLayers bs e k → ⊥

abbrev pub AllSingle : Type 0
AllSingle = (bs : List ℕ) (e : ℕ) → ((dimensions_bad bs e ≡ false) × LacksLayers bs e) ↔ DimensionsRight bs e (SizeSingle bs e)
