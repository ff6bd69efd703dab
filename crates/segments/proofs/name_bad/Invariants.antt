use mathlib.Core.Path.{◌≡◌}
use mathlib.Core.Bool.{not}
use lib.ListN.{drop}
use Rattle.format.specs.Segments.{name_bad}
use Rattle.segments.proofs.Names.{AnyStands}
use Rattle.segments.proofs.name_bad.Given as goal

abbrev pub invariant-loop-kind : goal.invariant-loop-kind
invariant-loop-kind l = name_bad l.s l.p ≡ not (AnyStands l.s l.p (drop l.kind-index l.kind-items))
