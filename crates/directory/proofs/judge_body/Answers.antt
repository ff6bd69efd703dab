-- `directory::judge_body` meets its contract.
use mathlib.Core.Path.{refl, ◌∙◌}
use Rattle.std.proofs.lemmas.Result.{err_from_is_err_and}
use Rattle.format.specs.Scan.{scan_of}
use Rattle.format.specs.Directory.{tile_rows}
use Rattle.directory.specs.Marks.{block_rows}
use Rattle.directory.proofs.Stages.{fixed_in, block-known}
use Rattle.directory.proofs.Marking.{answered-stop, body-next}
use Rattle.directory.proofs.judge_body.Goals as goal

pub file_position-q-requires : goal.file_position-q-requires
file_position-q-requires c = search fixed_in

pub judge_tile-requires : goal.judge_tile-requires
judge_tile-requires c = record { e_bound = c.requires.e_bound; named_value = rw (← c.file_position-q.ensures) c.index_of.ensures }

pub judge_block-requires : goal.judge_block-requires
judge_block-requires c =
    let p = c.requires in
    let t = c.in_ok-k.ensures in
    block-known (scan_of _ _) _ _ _ c.file_position-q.ensures (t.index ∙ c.index_of.ensures) _ _ p.marked p.e_bound.0 p.e_bound.1 t.verdict refl

pub returns-in_err-k : goal.returns-in_err-k
returns-in_err-k c =
    let p = err_from_is_err_and c.from_residual.result c.from_residual.ensures.1 in
    rw (p.1, p.2) (answered-stop _ _ _ _ (tile_rows _ c.args.e _) (block_rows _ c.args.e _ _ c.args.release) c.in_err-k.ensures.verdict _ c.requires.marked refl)

pub returns : goal.returns
returns c = body-next (scan_of _ _) _ _ _ _ _ c.in_ok-k.ensures.verdict refl c.file_position-q.ensures c.judge_block.ensures
