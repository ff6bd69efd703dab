-- `markup::items::begins_name` meets its contract.
use Rattle.markup.proofs.Naming.{named, unnamed}
use Rattle.markup.proofs.items.begins_name.Goals as goal

pub returns-then-not-is_empty : goal.returns-then-not-is_empty
returns-then-not-is_empty c = named _ _ c.is_empty.ensures c.if-not-is_empty.true

pub returns-else-not-is_empty : goal.returns-else-not-is_empty
returns-else-not-is_empty c = unnamed _ _ c.is_empty.ensures c.if-not-is_empty.false
