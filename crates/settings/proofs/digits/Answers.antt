-- `settings::digits` meets its contract.
use mathlib.Core.Path.{sym, ◌∙◌}
use native.Mathlib.Omega.{arith}
use Rattle.std.proofs.lemmas.List.Sums.{prefix_len-le-length}
use Rattle.std.specs.Char.{is_ascii_digit}
use Rattle.settings.proofs.Finding.{front-taken, behind-dropped}
use Rattle.settings.proofs.digits.Goals as goal

pub split_at-requires : goal.split_at-requires
split_at-requires c = omega (arith, c.digit_count.ensures, prefix_len-le-length is_ascii_digit c.args.s.now)

pub returns : goal.returns
returns c =
    let s = c.args.s.now in
    let n = c.digit_count.ensures in
    (c.split_at.ensures.front ∙ rw n (sym (front-taken s)), c.split_at.ensures.back ∙ rw n (sym (behind-dropped s)))
