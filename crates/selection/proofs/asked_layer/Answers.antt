-- `selection::asked_layer` meets its contract.
use Rattle.entries.proofs.EntryLaws.{layers-in}
use Rattle.format.specs.Choice.{asked_layer}
use Rattle.format.proofs.Flags.{is_false}
use Rattle.selection.proofs.Starts.{layer-from, layer-to, layer-after, layer-is}
use Rattle.selection.proofs.asked_layer.Goals as goal

pub letter_at-requires : goal.letter_at-requires
letter_at-requires c = search layers-in

pub asked_start-requires : goal.asked_start-requires
asked_start-requires c = (search layer-from, search layer-to)

pub biased_start-requires : goal.biased_start-requires
biased_start-requires c = search layers-in

pub overflow_sub-result : goal.overflow_sub-result
overflow_sub-result c = search layer-after

pub returns-then-is_layered : goal.returns-then-is_layered
returns-then-is_layered c = search layer-is

pub returns-else-is_layered : goal.returns-else-is_layered
unfolding asked_layer
returns-else-is_layered c = rw (is_false _ _ c.is_layered.ensures c.if-is_layered.false)
