-- The layer that a question asks for of a tile is one that the tile has: so it is of every selected tile.
use Rattle.std.specs.Prelude.{ℕ, ◌≤◌, ◌<◌, ◌≡◌, List, true, ℤ}
use Rattle.format.specs.Bytes.{biased}
use Rattle.format.specs.Choice.{asked_start, asked_layer}
use Rattle.format.specs.Entry.{letter, start, is_layered, layers_place, layer_count}

-- of the tile of the entry at e
pub record HasAskedLayer (bs : List ℕ) (e : ℕ) (starts : List ℤ) : Type 0 where
  pub from : is_layered bs e ≡ true → biased (start bs (layers_place bs e)) ≤ asked_start starts (letter bs (layers_place bs e))
  pub below : asked_layer bs e starts < layer_count bs e
