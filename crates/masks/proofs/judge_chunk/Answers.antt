-- `masks::judge_chunk` meets its contract.
use mathlib.Core.Path.{sym, ◌∙◌}
use native.Mathlib.Omega.{arith}
use borrow.Author.Rules.{rules}
use Rattle.format.proofs.Flags.{flags}
use Rattle.format.specs.Masks.{chunk_rows}
use Rattle.format.proofs.ChunkWalk.{chunk-fits}
use Rattle.masks.proofs.judge_chunk.Goals as goal

pub chunk_bad-requires : goal.chunk_bad-requires
unfolding chunk_rows
chunk_bad-requires c = search rules

pub returns-then-chunk_bad : goal.returns-then-chunk_bad
unfolding chunk_rows
returns-then-chunk_bad c = search flags depth 8

pub mask_refused-requires : goal.mask_refused-requires
unfolding chunk_rows
mask_refused-requires c = omega (arith, (chunk-fits _ _ _ (sym c.chunk_bad.ensures ∙ c.if-chunk_bad.false)).1)

pub returns-then-mask_refused : goal.returns-then-mask_refused
unfolding chunk_rows
returns-then-mask_refused c = search flags depth 8

pub returns : goal.returns
unfolding chunk_rows
returns c = search flags depth 8
