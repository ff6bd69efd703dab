-- `parts::tile_refusal` meets its contract.
use Rattle.std.proofs.lemmas.Result.{err_from_is_err_and}
use Rattle.format.specs.Rules.{verdict, tile_verdict}
use Rattle.format.proofs.Flags.{le_yes, le-no}
use Rattle.judge.proofs.AcceptedFile.{accepted-file}
use Rattle.parts.proofs.Numbered.{refused-before, no_such, is-there}
use Rattle.parts.proofs.tile_refusal.Goals as goal

ruleset answers = (refused-before, no_such, is-there, le_yes, le-no)

pub tile_count-requires : goal.tile_count-requires
unfolding verdict tile_verdict
tile_count-requires c = search (accepted-file, c.in_ok-judge.was)

pub returns-then-tile_count-n : goal.returns-then-tile_count-n
unfolding verdict tile_verdict
returns-then-tile_count-n c = search (answers, c.in_ok-judge.was)

pub returns-in_err-judge : goal.returns-in_err-judge
unfolding verdict tile_verdict
returns-in_err-judge c =
    let p = err_from_is_err_and c.from_residual.result c.from_residual.ensures.1 in
    rw (p.1, p.2) (search (answers, c.in_err-judge.was))

pub returns : goal.returns
unfolding verdict tile_verdict
returns c = search (answers, c.in_ok-judge.was)
