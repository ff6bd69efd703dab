-- `masks::mask_in` meets its contract.
use Prim.Native.Nat.{◌+◌, ◌≤◌}
use mathlib.Core.Path.{refl}
use native.Mathlib.Omega.{arith}
use Rattle.masks.proofs.ChunkLaws.{sought-end, sought-head, sought-fields, sought-within, sought-mask, sought-other}
use Rattle.masks.proofs.mask_in.Goals as goal

pub loop-c-init : goal.loop-c-init
loop-c-init c = record { within = omega arith; accepted = c.requires.a_value; same = refl }

pub chunk_at-chunk-requires : goal.chunk_at-chunk-requires
chunk_at-chunk-requires c = search (sought-head, sought-fields)

pub returns-in-Some : goal.returns-in-Some
returns-in-Some c = search sought-mask

pub overflow_add-c-in-loop-c : goal.overflow_add-c-in-loop-c
overflow_add-c-in-loop-c c = let k : c.loop-c.c + 20 + c.chunk_at-chunk.result.length ≤ c.args.end = search sought-within in omega arith

pub loop-c-smaller : goal.loop-c-smaller
loop-c-smaller c = let k : c.loop-c.c + 20 + c.chunk_at-chunk.result.length ≤ c.args.end = search sought-within in omega arith

pub loop-c-preserved : goal.loop-c-preserved
loop-c-preserved c = search sought-other

pub returns : goal.returns
returns c = search sought-end
