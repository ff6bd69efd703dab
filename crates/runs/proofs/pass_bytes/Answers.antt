-- `runs::pass_bytes` meets its contract.
use mathlib.Core.Path.{ap, ◌∙◌}
use Prim.Native.Nat.{ℕ, ◌%◌}
use native.Mathlib.Omega.{arith}
use Rattle.runs.proofs.Bytes.{low_byte, full-byte-more, full-stop}
use Rattle.runs.proofs.pass_bytes.Goals as goal

pub returns-then-m-i : goal.returns-then-m-i
returns-then-m-i c =
    full-stop c.args.m.now c.args.v (omega arith) (omega arith) c.loop-i.invariant _
    (ap (λ (x : ℕ). x % 256) c.full_word.ensures ∙ low_byte c.args.v) c.if-m-i.true

pub loop-i-preserved : goal.loop-i-preserved
loop-i-preserved c =
    full-byte-more c.args.m.now c.args.v c.loop-i.invariant
    (c.if-m-i.false ∙ ap (λ (x : ℕ). x % 256) c.full_word.ensures ∙ low_byte c.args.v)
