-- `Open::is_empty` meets its contract.
use Rattle.std.proofs.Common.{sym, ap, arith, ◌==◌}
use Rattle.markup.specs.Open.{name_in}
use Rattle.markup.proofs.Opening.{names-length}
use Rattle.markup.proofs.section.Open.is_empty.Goals as goal

pub returns : goal.returns
returns c =
    let i = c.self.invariant in
    rw (← c.self.view_is) (ap (λ n. n == 0) (sym (names-length name_in c.self.inside.names c.self.inside.depth (omega (arith, i.most, i.room)))))
