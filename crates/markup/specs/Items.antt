-- What the code's answers say: an item, and what stands behind it.
use Rattle.std.specs.Prelude.{ℕ, List, [], ◌∷◌, Bool, cond, drop, Option, Some, None}
use Rattle.std.proofs.Math.Option as Math
use Rattle.format.specs.Markup as Said
use Rattle.markup.specs.declared.items.Item.{Item}
use Rattle.markup.specs.declared.items.Item.TheVariants.{Start, Close, Empty, Text, Skipped}
use denote.Ref.{Bor}

abbrev pub meant : Item → Said.Item
meant (Start name) = Said.start name.now
meant (Close name) = Said.close name.now
meant Empty = Said.empty
meant (Text bytes) = Said.text bytes.now
meant Skipped = Said.skipped

abbrev pub found_in : Option (Item × Bor (List ℕ)) → Said.Found
found_in None = Math.none
found_in (Some (item, rest)) = Math.some (meant item, rest.now)

abbrev pub rest_in : Option (Bor (List ℕ)) → Math.Option (List ℕ)
rest_in None = Math.none
rest_in (Some rest) = Math.some rest.now

abbrev pub tag_in : Option (Bool × Bor (List ℕ)) → Math.Option (Bool × List ℕ)
tag_in None = Math.none
tag_in (Some (is_empty, rest)) = Math.some (is_empty, rest.now)

-- a skipped part, from behind its opener on
unfoldable pub skipped_behind : List ℕ → List ℕ → Said.Found
skipped_behind m bs = Math.Option-elim (Said.behind_first m bs) Math.none (λ rest. Math.some (Said.skipped, rest))

-- a comment or a character-data section, from behind `<!` on: nothing else begins so
unfoldable pub declaration_at : List ℕ → Said.Found
declaration_at bs =
    cond (Said.begins (45 ∷ 45 ∷ []) bs) (skipped_behind (45 ∷ 45 ∷ 62 ∷ []) (drop 2 bs))
    (cond (Said.begins (91 ∷ 67 ∷ 68 ∷ 65 ∷ 84 ∷ 65 ∷ 91 ∷ []) bs) (skipped_behind (93 ∷ 93 ∷ 62 ∷ []) (drop 7 bs))
    Math.none)
