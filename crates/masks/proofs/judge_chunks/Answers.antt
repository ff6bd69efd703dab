-- `masks::judge_chunks` meets its contract.
use Prim.Native.Nat.{◌+◌, ◌≤◌}
use mathlib.Core.Path.{refl}
use native.Mathlib.Omega.{arith}
use Rattle.std.proofs.lemmas.Result.{err_from_is_err_and}
use Rattle.masks.proofs.ChunkLaws.{judged-end, judged-stop, judged-head, judged-fields, judged-within, judged-next}
use Rattle.masks.proofs.judge_chunks.Goals as goal

pub loop-c-init : goal.loop-c-init
loop-c-init c = record { within = omega arith; same = refl }

pub returns-in_err-judge_chunk : goal.returns-in_err-judge_chunk
returns-in_err-judge_chunk c =
    let p = err_from_is_err_and c.from_residual.result c.from_residual.ensures.1 in rw (p.1, p.2) (search (judged-stop, c.in_err-judge_chunk.was))

pub chunk_at-chunk-requires : goal.chunk_at-chunk-requires
chunk_at-chunk-requires c = search (judged-head, judged-fields, c.in_ok-judge_chunk.was)

pub overflow_add-c-in-loop-c : goal.overflow_add-c-in-loop-c
overflow_add-c-in-loop-c c =
    let k : c.loop-c.c + 20 + c.chunk_at-chunk.result.length ≤ c.args.end = search (judged-within, c.in_ok-judge_chunk.was) in omega arith

pub loop-c-smaller : goal.loop-c-smaller
loop-c-smaller c =
    let k : c.loop-c.c + 20 + c.chunk_at-chunk.result.length ≤ c.args.end = search (judged-within, c.in_ok-judge_chunk.was) in omega arith

pub loop-c-preserved : goal.loop-c-preserved
loop-c-preserved c = rw c.is_some-seen.ensures (search (judged-next, c.in_ok-judge_chunk.was))

pub returns : goal.returns
returns c = search judged-end
