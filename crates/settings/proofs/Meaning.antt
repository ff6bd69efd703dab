-- What the masks line and the edition come to. Assumes nothing.
use mathlib.Core.Path.{◌≡◌, refl}
use mathlib.Core.Bool.{true, false}
use Rattle.question.specs.Question.{masks_on}
use Rattle.question.specs.declared.Masks.TheVariants.{On, Off}
use Rattle.settings.specs.Settings.{masks_meant}
use Rattle.settings.specs.Claims.{MasksMeaning}
use Rattle.settings.specs.declared.Edition.{Edition}
use Rattle.settings.specs.declared.Edition.TheVariants.{First, Second}

on : (e : Edition) → masks_on (masks_meant e On) ≡ true
on First = refl
on Second = refl

off : (e : Edition) → masks_on (masks_meant e Off) ≡ false
off First = refl
off Second = refl

pub masks-meaning : MasksMeaning
masks-meaning = record { first = refl; second = refl; on = on; off = off }
