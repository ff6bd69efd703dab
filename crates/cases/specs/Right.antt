-- What is claimed of a list of worked cases: each has the answer that is right.
use Rattle.std.specs.Prelude.{◌≡◌, List, map}

abbrev pub AllRight : {C A : Type 0} → (C → A) → (C → A) → List C → Type 0
AllRight answer right cases = map answer cases ≡ map right cases
