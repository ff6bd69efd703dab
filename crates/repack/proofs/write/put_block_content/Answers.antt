-- `repack::write::put_block_content` meets its contract.
use native.Mathlib.Omega.{arith}
use borrow.Author.Rules.{rules}
use Rattle.repack.proofs.Blocks.{block-numbers, block-content-put}
use Rattle.repack.proofs.write.put_block_content.Goals as goal

pub overflow_sub-fixed : goal.overflow_sub-fixed
overflow_sub-fixed c =
    let k = block-numbers _ _ _ c.requires.0 _ c.metadata_span-metadata.ensures in
    omega arith

pub overflow_sub-fixed-2 : goal.overflow_sub-fixed-2
overflow_sub-fixed-2 c =
    let k = block-numbers _ _ _ c.requires.0 _ c.metadata_span-metadata.ensures in
    omega arith

pub overflow_add-copied : goal.overflow_add-copied
overflow_add-copied c =
    let k = block-numbers _ _ _ c.requires.0 _ c.metadata_span-metadata.ensures in
    omega arith

pub put_part-requires : goal.put_part-requires
put_part-requires c =
    let k = block-numbers _ _ _ c.requires.0 _ c.metadata_span-metadata.ensures in
    search rules

pub put_entry-requires : goal.put_entry-requires
put_entry-requires c =
    let k = block-numbers _ _ _ c.requires.0 _ c.metadata_span-metadata.ensures in
    search rules

pub overflow_add-p-2 : goal.overflow_add-p-2
overflow_add-p-2 c =
    let k = block-numbers _ _ _ c.requires.0 _ c.metadata_span-metadata.ensures in
    omega arith

pub overflow_sub-fixed-3 : goal.overflow_sub-fixed-3
overflow_sub-fixed-3 c =
    let k = block-numbers _ _ _ c.requires.0 _ c.metadata_span-metadata.ensures in
    omega arith

pub put_zeros-requires : goal.put_zeros-requires
put_zeros-requires c =
    let k = block-numbers _ _ _ c.requires.0 _ c.metadata_span-metadata.ensures in
    omega arith

pub overflow_add-p-3 : goal.overflow_add-p-3
overflow_add-p-3 c =
    let k = block-numbers _ _ _ c.requires.0 _ c.metadata_span-metadata.ensures in
    omega arith

pub put_part-requires-2 : goal.put_part-requires-2
put_part-requires-2 c =
    let k = block-numbers _ _ _ c.requires.0 _ c.metadata_span-metadata.ensures in
    search rules

pub returns : goal.returns
returns c =
    block-content-put _ _ _ _ _ _ _ _ _ _ _ _ _ c.requires.0 c.requires.1 c.metadata_span-metadata.ensures c.entry_size-copied.ensures
    c.parts_size.ensures c.put_part-2.ensures c.put_zeros.ensures c.put_entry.ensures c.put_part.ensures
