-- `compose::disagrees` meets its contract.
use Rattle.subblocks.proofs.PartLaws.{listed_in}
use Rattle.compose.proofs.Agreeing.{no-entry, apart-agrees, meeting-type}
use Rattle.compose.proofs.Gathering.{edges-read}
use Rattle.compose.proofs.disagrees.Goals as goal
use Rattle.compose.proofs.disagrees.Goals.{then-e-eq0-via-then-e-eq0, then-e-eq0-via-else-e-eq0+then-not-meets_window}

pub meets_window-requires : goal.meets_window-requires
meets_window-requires c = edges-read _ _ (c.requires.listed c.if-e-eq0.false) c.rectangle_of.ensures c.requires.edges

pub pixel_type-requires : goal.pixel_type-requires
pixel_type-requires c = listed_in _ _ (c.requires.listed c.if-e-eq0.false)

pub returns-then-e-eq0 : goal.returns-then-e-eq0
returns-then-e-eq0 c =
    elim c.then-e-eq0.branch [
      | then-e-eq0-via-then-e-eq0 w ↦ no-entry _ _ _ _ (search)
      | then-e-eq0-via-else-e-eq0+then-not-meets_window w ↦
          apart-agrees _ _ _ _ w.if-e-eq0.false _ w.rectangle_of.ensures _ w.meets_window.ensures (rw w.if-not-meets_window.true)
    ]

pub returns : goal.returns
returns c = search meeting-type
