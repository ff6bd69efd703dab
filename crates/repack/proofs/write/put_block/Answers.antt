-- `repack::write::put_block` meets its contract.
use borrow.Author.Rules.{rules}
use Rattle.pack.specs.Pack.{allocated, segment_size}
use Rattle.repack.proofs.Blocks.{block-content-small, block-put}
use Rattle.repack.proofs.Written.{name-long}
use Rattle.segments.specs.declared.kinds.Kind.TheVariants as Kind
use Rattle.repack.proofs.write.put_block.Goals as goal

pub put_header-requires : goal.put_header-requires
unfolding segment_size allocated
put_header-requires c = search (rules, block-content-small, name-long Kind.SubBlock c.name.ensures)

pub put_padding-requires : goal.put_padding-requires
unfolding segment_size allocated
put_padding-requires c = search (rules, block-content-small)

pub returns : goal.returns
returns c =
    block-put _ _ _ _ _ _ _ _ _ c.requires.0 c.requires.2 c.sub_block_size-size.ensures c.put_padding.ensures
    c.put_block_content.ensures (rw c.name.ensures at c.put_header.ensures)
