-- `settings::decimals` meets its contract.
use Prim.Native.Nat.{◌≤◌, ◌^◌, ◌-◌}
use mathlib.Core.Path.{◌≡◌, sym, ◌∙◌}
use mathlib.Core.Logic.{⊎_elim}
use lib.ListN.{length}
use borrow.Author.Tests.{eqb-true, eqb-false}
use native.Mathlib.Omega.{arith}
use Rattle.format.proofs.Stretches.{every_front}
use Rattle.settings.specs.Settings.{digit}
use Rattle.settings.proofs.Numbers.{product_small}
use Rattle.settings.proofs.Finding.{no-point, decimals-none, decimals-many, decimals-right, unit-of, fraction-is, behind-is}
use Rattle.settings.proofs.decimals.Goals as goal
use Rattle.settings.proofs.decimals.Goals.{in-1, in-2, in_default-len}

pub returns-in_default : goal.returns-in_default
returns-in_default c = let p = no-point _ c.in_default.ensures.cases in (p.0, p.1, omega arith, p.2)

pub returns-then-is_empty : goal.returns-then-is_empty
returns-then-is_empty c =
    let p = c.in-Some.ensures.cases in
    ⊎_elim (λ t. decimals-none _ p.0 _ p.1 _ c.digits.ensures.0 (eqb-true _ _ (sym c.is_empty.ensures ∙ t)))
    (λ t. decimals-many _ p.0 _ p.1 _ c.digits.ensures.0 t.1)
    c.then-is_empty.either

pub number_of-requires : goal.number_of-requires
number_of-requires c = (rw c.digits.ensures.0 (every_front digit _), omega arith)

pub returns : goal.returns
returns c =
    let p = c.in-Some.ensures.cases in
    let ds = c.digits.result.0.now in
    let u = c.match-decimals.unit in
    let few : length ds ≤ 3 = search in
    let some = eqb-false (length ds) 0 (sym c.if-is_empty.ensures) in
    let counts : (u ≡ 10 ^ (3 - length ds)) × (u ≤ 100) =
    elim c.match-decimals.branch [
      | in-1 w ↦ (unit-of _ _ 1 (omega (arith, w.in-1)) w.unit-is, omega (arith, w.unit-is))
      | in-2 w ↦ (unit-of _ _ 2 (omega (arith, w.in-2)) w.unit-is, omega (arith, w.unit-is))
      | in_default-len w ↦ (unit-of _ _ 3 (omega (arith, w.in_default-len, some)) w.unit-is, omega (arith, w.unit-is))
    ] in (
      decimals-right _ p.0 _ p.1 _ c.digits.ensures.0 some few,
      fraction-is _ p.0 _ p.1 _ c.digits.ensures.0 _ _ c.number_of.ensures.0 counts.0,
      product_small _ _ c.number_of.ensures.1 counts.1,
      behind-is _ p.0 _ p.1 _ c.digits.ensures.0 _ c.digits.ensures.1,
    )
