-- `directory::judge_directory` meets its contract.
use borrow.Author.Rules.{rules}
use Rattle.format.proofs.Flags.{flags, cond-false, is_false}
use Rattle.format.specs.Directory.{tile_count, directory_rows}
use Rattle.directory.proofs.Stages.{room_at, first-in, count-in}
use Rattle.directory.proofs.judge_directory.Goals as goal

pub directory_bad-requires : goal.directory_bad-requires
directory_bad-requires c = search room_at

pub returns-then-directory_bad : goal.returns-then-directory_bad
unfolding directory_rows
returns-then-directory_bad c = rw (← c.directory_position-d.ensures) (search flags depth 8)

pub entry_count-requires : goal.entry_count-requires
entry_count-requires c = search count-in

pub judge_entries-requires : goal.judge_entries-requires
judge_entries-requires c = search (rules, room_at, first-in)

pub returns : goal.returns
unfolding directory_rows tile_count
returns c =
    rw (← c.directory_position-d.ensures, ← c.entry_count.ensures.0)
    (cond-false _ _ _ _ (is_false _ _ c.directory_bad.ensures c.if-directory_bad.false) c.judge_entries.ensures)
