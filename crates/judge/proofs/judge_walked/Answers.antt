-- `judge::judge_walked` meets its contract.
use mathlib.Core.Path.{◌≡◌}
use Rattle.std.proofs.lemmas.Result.{err_from_is_err_and}
use Rattle.directory.proofs.Stages.{then-stop, then_next}
use Rattle.judge.proofs.LocatedLaws.{located-by}
use Rattle.judge.specs.Located.{Located}
use Rattle.judge.proofs.judge_walked.Goals as goal

-- the file segment is accepted: what it names lies in the file
located : (c : goal.In_ok-judge_file) → Located c.args.walk.now.file.now
located c = located-by _ _ c.judge_file.ensures c.in_ok-judge_file.was

pub returns-in_err-judge_file : goal.returns-in_err-judge_file
returns-in_err-judge_file c =
    let p = err_from_is_err_and c.from_residual.result c.from_residual.ensures.1 in
    rw (p.1, p.2) (search (then-stop, c.in_err-judge_file.was))

pub judge_directory-requires : goal.judge_directory-requires
judge_directory-requires c = (c.requires, (located c).directory)

pub returns-in_err-judge_directory : goal.returns-in_err-judge_directory
returns-in_err-judge_directory c =
    let r = c.from_residual-in_err-judge_directory in
    let p = err_from_is_err_and r.result r.ensures.1 in
    rw (p.1, p.2) (search (then_next, then-stop, c.in_ok-judge_file.was, c.in_err-judge_directory.was))

pub judge_metadata-requires-clause-room_in : goal.judge_metadata-requires-clause-room_in
judge_metadata-requires-clause-room_in c = (located-by _ _ c.judge_file.ensures c.in_ok-judge_file.was).metadata

pub returns-in_err-judge_metadata : goal.returns-in_err-judge_metadata
returns-in_err-judge_metadata c =
    let r = c.from_residual-in_err-judge_metadata in
    let p = err_from_is_err_and r.result r.ensures.1 in
    rw (p.1, p.2) (search (then_next, then-stop, c.in_ok-judge_file.was, c.in_ok-judge_directory.was, c.in_err-judge_metadata.was))

pub judge_attachments-requires-clause-room_in : goal.judge_attachments-requires-clause-room_in
judge_attachments-requires-clause-room_in c = (located-by _ _ c.judge_file.ensures c.in_ok-judge_file.was).attachments

pub returns : goal.returns
returns c = search (then_next, c.in_ok-judge_file.was, c.in_ok-judge_directory.was, c.in_ok-judge_metadata.was)
