-- `Open::pop` meets its contract.
use Rattle.std.proofs.Common.{sym, ◌∙◌, ◌-◌, arith, None, refl}
use Rattle.markup.specs.Open.{name_in}
use Rattle.markup.proofs.Opening.{names-taken, name-of}
use Rattle.markup.proofs.section.Open.pop.Goals as goal

pub returns : goal.returns
returns c =
    let i = c.self.invariant in
    let z = c.if-self-eq0.false in
    sym c.self.view_is
    ∙ names-taken name_in c.self.inside.names (c.self.inside.depth - 1) c.self.inside.depth (omega (arith, z)) (omega (arith, z, i.most, i.room)) None
    ∙ rw (name-of _ _ _ c.unwrap_or.ensures refl)
