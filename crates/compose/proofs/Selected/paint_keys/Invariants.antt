use Rattle.format.specs.Scan.{scan_of}
use Rattle.question.specs.Question.{masks_on}
use Rattle.tiles.specs.FileTile.{paints}
use Rattle.compose.proofs.Running.{RunAt}
use Rattle.compose.proofs.Selected.paint_keys.Given as goal

abbrev pub invariant-loop-key : goal.invariant-loop-key
invariant-loop-key l =
    RunAt l.turn l.initial.target l.initial.map (paints (scan_of l.self.question.file.now l.self.question.release) l.self.question.starts.now (masks_on l.self.question.request.masks))
    l.keys l.self.window l.self.question.request.pixel_type l.key-index l.target l.map l.stored
