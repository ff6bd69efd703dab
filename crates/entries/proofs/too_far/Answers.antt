-- `entries::too_far` meets its contract.
use Prim.Native.Nat.{◌+◌, ◌<◌, ◌≤◌}
use native.Mathlib.Omega.{arith}
use borrow.Author.Rules.{rules}
use Rattle.format.specs.Bytes.{biased}
use Rattle.entries.proofs.EntryLaws.{far, near}
use Rattle.entries.proofs.too_far.Goals as goal

pub biased_start-requires : goal.biased_start-requires
unfolding biased
biased_start-requires c = search rules

pub size_at-requires : goal.size_at-requires
unfolding biased
size_at-requires c = search rules

pub biased_of-requires : goal.biased_of-requires
unfolding biased
biased_of-requires c = search rules

pub overflow_add-end : goal.overflow_add-end
unfolding biased
overflow_add-end c = omega arith

pub returns-then-end-gt6442450943 : goal.returns-then-end-gt6442450943
unfolding biased
returns-then-end-gt6442450943 c = let h : 6442450943 < c.biased_start.result + c.biased_of.result = omega arith in search far

pub returns : goal.returns
unfolding biased
returns c = let h : c.biased_start.result + c.biased_of.result ≤ 6442450943 = omega arith in search near
