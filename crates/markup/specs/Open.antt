-- The names of the open tags.
use Rattle.std.specs.Prelude.{ℕ, ◌≡◌, ◌≤◌, List, [], length, map, take, reverse, Option, None, Some}
use denote.Ref.{Bor}
use Rattle.markup.specs.declared.section.Open.TheInside.{Inside}

-- by its bytes; none has no bytes
unfoldable pub name_in : Option (Bor (List ℕ)) → List ℕ
name_in None = []
name_in (Some name) = name.now

-- innermost first
abbrev pub open_names : Inside → List (List ℕ)
open_names o = reverse (map name_in (take o.depth o.names))

pub record Few (o : Inside) : Type 0 where
  pub most : o.depth ≤ 64
  pub room : length o.names ≡ 64
