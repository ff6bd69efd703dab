-- `runs::pass_words` meets its contract.
use mathlib.Core.Path.{sym, ◌∙◌}
use borrow.Author.Rules.{rules}
use native.Mathlib.Omega.{arith}
use Rattle.runs.proofs.Bytes.{full-word-more}
use Rattle.runs.proofs.pass_words.Goals as goal

pub loop-j-preserved : goal.loop-j-preserved
loop-j-preserved c i h l =
    full-word-more _ (λ n. search rules) c.args.v c.loop-j.invariant (sym c.u64_at.ensures ∙ c.if-u64_at-word.false ∙ c.full_word-word.ensures) i h
    (omega arith)
