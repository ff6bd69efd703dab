-- `keys::insert` meets its contract.
use native.Mathlib.Omega.{arith}
use borrow.Author.Rules.{rules}
use lib.Dec.{ltb}
use lib.ListN.{take}
use Rattle.std.proofs.lemmas.List.Sorted.{IsPartitionPoint-from_clause, IsPartitionedBy-ltb, IsNonDecreasingBy-from_default}
use Rattle.keys.proofs.Inserting.{not-falling, inserted}
use Rattle.keys.proofs.insert.Goals as goal

pub returns : goal.returns
returns c =
    let a = c.args in
    let l = take a.count a.keys.now in
    let i = c.partition_point-i.result in
    let p = IsPartitionPoint-from_clause (λ y. ltb y a.key) l i c.partition_point-i.ensures.partitioned
    (IsPartitionedBy-ltb (λ y. y) l a.key (IsNonDecreasingBy-from_default (λ y. y) l 0 (not-falling l c.requires.rising)))
    (λ x r f h. search rules) in
    rw c.copy_within.ensures.after (inserted a.count a.key i a.keys.now (search rules) (omega arith) p)
