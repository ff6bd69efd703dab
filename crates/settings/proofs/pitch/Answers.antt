-- `settings::pitch` meets its contract.
use mathlib.Core.Path.{sym, ◌∙◌}
use mathlib.Core.Logic.{⊎_elim}
use borrow.Author.Tests.{eqb-true, eqb-false}
use Rattle.format.proofs.Stretches.{every_front}
use Rattle.settings.specs.Settings.{digit}
use Rattle.settings.proofs.Finding.{whole-none, whole-many, wrong-decimals, pitch-none, pitch-most, pitch-right, pitch-is, pitch-behind}
use Rattle.settings.proofs.pitch.Goals as goal

pub returns-then-is_empty : goal.returns-then-is_empty
returns-then-is_empty c =
    let d = c.digits.ensures in
    ⊎_elim (λ t. whole-none _ _ _ d.0 d.1 (eqb-true _ _ (sym c.is_empty.ensures ∙ t))) (λ t. whole-many _ _ _ d.0 d.1 t.1) c.then-is_empty.either

pub returns-in_err-fraction : goal.returns-in_err-fraction
returns-in_err-fraction c =
    let d = c.digits.ensures in
    let some = eqb-false _ _ (sym c.is_empty.ensures ∙ c.if-is_empty.false) in
    rw c.from_residual.ensures (wrong-decimals _ _ _ d.0 d.1 some (search) c.in_err-fraction.ensures)

pub number_of-requires : goal.number_of-requires
number_of-requires c = (rw c.digits.ensures.0 (every_front digit _), search)

pub returns-then-pitch-eq0 : goal.returns-then-pitch-eq0
returns-then-pitch-eq0 c =
    let d = c.digits.ensures in
    let some = eqb-false _ _ (sym c.is_empty.ensures ∙ c.if-is_empty.false) in
    let e = c.in_ok-fraction.ensures in
    ⊎_elim (pitch-none _ _ _ d.0 d.1 some (search) e.0 _ _ c.number_of.ensures.0 e.1)
    (λ t. pitch-most _ _ _ d.0 d.1 some (search) e.0 _ _ c.number_of.ensures.0 e.1 t.1)
    c.then-pitch-eq0.either

pub returns : goal.returns
returns c =
    let d = c.digits.ensures in
    let some = eqb-false _ _ (sym c.is_empty.ensures ∙ c.if-is_empty.false) in
    let e = c.in_ok-fraction.ensures in (
      pitch-right _ _ _ d.0 d.1 some (search) e.0 _ _ c.number_of.ensures.0 e.1 (search) (search),
      pitch-is _ _ _ d.0 d.1 some (search) e.0 _ _ c.number_of.ensures.0 e.1,
      pitch-behind _ _ _ d.0 d.1 _ e.3,
    )
