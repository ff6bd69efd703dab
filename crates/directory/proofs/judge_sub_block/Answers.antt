-- `directory::judge_sub_block` meets its contract.
use Rattle.format.proofs.Flags.{cond-true, is_true, is_false}
use Rattle.format.specs.Directory.{sub_block_rows}
use Rattle.directory.proofs.Stages.{copy-agrees}
use Rattle.directory.proofs.judge_sub_block.Goals as goal

pub returns-then-sub_block_bad : goal.returns-then-sub_block_bad
unfolding sub_block_rows
returns-then-sub_block_bad c = search (cond-true, is_true)

pub contents_bad-requires : goal.contents_bad-requires
contents_bad-requires c = search copy-agrees

pub returns-then-contents_bad : goal.returns-then-contents_bad
unfolding sub_block_rows
returns-then-contents_bad c =
    rw (
      is_true _ _ c.contents_bad.ensures c.if-contents_bad.true,
      is_false _ _ c.sub_block_bad.ensures c.if-sub_block_bad.false,
    )

pub returns : goal.returns
unfolding sub_block_rows
returns c =
    rw (
      is_false _ _ c.contents_bad.ensures c.if-contents_bad.false,
      is_false _ _ c.sub_block_bad.ensures c.if-sub_block_bad.false,
    )
