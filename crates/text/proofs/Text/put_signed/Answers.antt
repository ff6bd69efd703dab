-- `Text::put_signed` meets its contract.
use Rattle.std.proofs.Common.{◌≤◌, ◌+◌, ℕ, ap, length, arith, length-append}
use Rattle.text.proofs.Digits.{put-short}
use Rattle.text.proofs.Text.put_signed.Goals as goal
use Rattle.text.proofs.Text.put_signed.Goals.{then-x-lt0, else-x-lt0}

pub returns-clause-most : goal.returns-clause-most
returns-clause-most c =
    let digits : length c.put_decimal.new.self ≤ length c.if-x-lt0.self + 10 =
    put-short _ _ c.from.result 10 (omega arith) (omega arith) c.put_decimal.ensures.said in
    elim c.if-x-lt0.branch [
      | then-x-lt0 w ↦ omega (arith, ap length w.self-is, ap length w.push.ensures, length-append {A = ℕ})
      | else-x-lt0 w ↦ omega (arith, ap length w.self-is)
    ]
