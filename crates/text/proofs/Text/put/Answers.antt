-- `Text::put` keeps the text clean, and meets its contract.
use Rattle.std.proofs.Common.{◌∙◌, ◌+◌, ◌≤◌, length, arith}
use Rattle.text.proofs.Texts.{length-said, put-clean, said-more}
use Rattle.text.proofs.Text.put.Goals as goal

pub invariant_of-self : goal.invariant_of-self
invariant_of-self c =
    let i = c.self.invariant in
    let room : c.self.inside.length + length c.args.words.now ≤ 192 =
    omega (arith, length-said c.self.inside c.args.self.now i c.self.view_is) in
    put-clean _ _ _ _ room i.whole i.rest c.copy_from_slice.ensures.after

pub returns : goal.returns
returns c =
    let i = c.self.invariant in
    let room : c.self.inside.length + length c.args.words.now ≤ 192 =
    omega (arith, length-said c.self.inside c.args.self.now i c.self.view_is) in
    said-more _ _ _ _ room i.whole i.rest c.copy_from_slice.ensures.after ∙ rw c.self.view_is
