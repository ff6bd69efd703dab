-- How much of the section's end has come, as the format's rule counts it.
use Rattle.std.specs.Prelude.{ℕ}
use Rattle.markup.specs.declared.section.Stage.{Stage}
use Rattle.markup.specs.declared.section.Stage.TheVariants.{Elsewhere, Begun, Said}

abbrev pub number : Stage → ℕ
number Elsewhere = 0
number Begun = 1
number Said = 2
