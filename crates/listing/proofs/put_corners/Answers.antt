-- `listing::put_corners` meets its contract.
use Rattle.std.proofs.Common.{append_assoc, rules}
use Rattle.listing.proofs.put_corners.Goals as goal

pub returns-in-Some-clause-said : goal.returns-in-Some-clause-said
returns-in-Some-clause-said c =
    rw (c.put_coordinate-in-Some-2.ensures.said, c.put_coordinate-in-Some.ensures.said, c.put_coordinate.ensures.said, c.put_signed.ensures.said, c.in-Some.is)
    (simp append_assoc (search rules))
