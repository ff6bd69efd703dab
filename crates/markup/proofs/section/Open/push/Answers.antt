-- `Open::push` meets its contract.
use Rattle.std.proofs.Common.{ap, ◌∙◌, ◌∷◌, arith, Some}
use Rattle.std.proofs.lemmas.List.{length-set}
use Rattle.markup.specs.Open.{name_in}
use Rattle.markup.proofs.Opening.{has-room, names-pushed}
use Rattle.markup.proofs.section.Open.push.Goals as goal

pub bounds-self-inside-self-inside : goal.bounds-self-inside-self-inside
bounds-self-inside-self-inside c = has-room _ c.self.invariant _ c.self.view_is c.requires

pub invariant_of-self : goal.invariant_of-self
invariant_of-self c =
    let l = has-room _ c.self.invariant _ c.self.view_is c.requires in
    record {
      most = omega (arith, l);
      room = length-set c.self.inside.names c.self.inside.depth (Some c.args.name) ∙ c.self.invariant.room;
    }

pub returns : goal.returns
unfolding name_in
returns c =
    let l = has-room _ c.self.invariant _ c.self.view_is c.requires in
    names-pushed name_in c.self.inside.names c.self.inside.depth (omega (arith, l, c.self.invariant.room)) (Some c.args.name)
    ∙ ap (λ names. c.args.name.now ∷ names) c.self.view_is
