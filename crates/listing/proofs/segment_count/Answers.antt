-- `listing::segment_count` meets its contract.
use Rattle.format.proofs.Acceptance.{verdict-parts}
use Rattle.listing.proofs.segment_count.Goals as goal

pub returns : goal.returns
returns c = rw (c.unwrap_or.ensures, c.judge_segments.ensures.answer_is, (verdict-parts _ c.requires.accepted).segments)
