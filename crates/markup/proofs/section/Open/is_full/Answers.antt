-- `Open::is_full` meets its contract.
use Rattle.std.proofs.Common.{sym, ap, arith, ◌==◌}
use Rattle.markup.specs.Open.{name_in}
use Rattle.markup.proofs.Opening.{names-length}
use Rattle.markup.proofs.section.Open.is_full.Goals as goal

pub returns-clause-value : goal.returns-clause-value
returns-clause-value c =
    let i = c.self.invariant in
    rw (← c.self.view_is) (ap (λ n. n == 64) (sym (names-length name_in c.self.inside.names c.self.inside.depth (omega (arith, i.most, i.room)))))

pub returns-clause-few : goal.returns-clause-few
returns-clause-few c =
    let i = c.self.invariant in
    rw (← c.self.view_is) (rw (names-length name_in c.self.inside.names c.self.inside.depth (omega (arith, i.most, i.room))) i.most)
