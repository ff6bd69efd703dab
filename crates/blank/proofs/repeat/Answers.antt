-- `blank::repeat` meets its contract.
use Rattle.blank.proofs.Repeats.{repeating-start, repeating-next, repeating-end}
use Rattle.blank.proofs.repeat.Goals as goal

pub loop-k-init : goal.loop-k-init
loop-k-init c = search repeating-start

pub loop-k-preserved : goal.loop-k-preserved
loop-k-preserved c =
    repeating-next c.loop-k.invariant c.requires.3 c.loop-k-test.true c.min-n.ensures c.split_at_mut-done.ensures.front
    c.split_at_mut-done.ensures.back c.copy_from_slice.ensures.after c.wider-w.ensures

pub returns : goal.returns
returns c = repeating-end c.loop-k.invariant c.loop-k-test.false
