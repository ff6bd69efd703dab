-- What chooses tiles of a scan and says how they are painted: a question but for its window, its pixel type and its background.
use Rattle.std.specs.Prelude.{ℕ, ◌-◌, List, Bool, cond, get_or, ℤ, pos}
use Rattle.format.specs.Bytes.{biased, shifted}
use Rattle.format.specs.Scan.{Scan}
use Rattle.format.specs.Entry.{letter, start, is_layered, layers_place}

-- the starts of the letters A to Z, in that order, 0 for what is not there; whether S may be any; whether masks are on
pub record Choice : Type 0 where
  pub scan : Scan
  pub starts : List ℤ
  pub any_scene : Bool
  pub masks : Bool

-- the start that is asked for the letter x (65 to 90), plus 2 ^ 31
unfoldable pub asked_start : List ℤ → ℕ → ℕ
asked_start starts x = shifted (get_or starts (x - 65) (pos 0))

-- the layer of a selected tile, whose entry stands at e, that is asked for, counted from 0: the start that is asked for the letter of its layers − the
-- Start there; 0 where it has no layers
unfoldable pub asked_layer : List ℕ → ℕ → List ℤ → ℕ
asked_layer bs e starts = cond (is_layered bs e) (asked_start starts (letter bs (layers_place bs e)) - biased (start bs (layers_place bs e))) 0
