-- `blank::fill` meets its contract.
use native.Mathlib.Omega.{arith}
use Rattle.blank.proofs.Front.{front_filled}
use Rattle.blank.proofs.Repeats.{fill-uniform, fill_none, fill-repeat}
use Rattle.blank.proofs.fill.Goals as goal

pub returns-then-uniform : goal.returns-then-uniform
returns-then-uniform c =
    fill-uniform _ _ c.args.bg.now c.args.target.now _ c.requires.bytes c.requires.pixel (c.uniform.ensures.0 c.if-uniform.true)
    (front_filled _ _ c.args.target.now _ c.requires.target (c.fill.ensures.after (λ y e. e)))

pub returns-then-n-gt0 : goal.returns-then-n-gt0
returns-then-n-gt0 c =
    fill-repeat _ _ c.args.bg.now c.args.target.now _ c.requires.bytes c.requires.pixel _ c.if-n-gt0.true c.requires.target
    c.copy_from_slice.ensures.after c.repeat.ensures

pub returns-else-n-gt0 : goal.returns-else-n-gt0
returns-else-n-gt0 c = fill_none _ _ c.args.bg.now _ (omega arith)
