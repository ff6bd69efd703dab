use Rattle.std.proofs.Common.{◌≡◌, [], ◌∷◌, drop}
use Rattle.format.specs.Markup.{behind_first}
use Rattle.markup.proofs.items.behind_quote.Given as goal

abbrev pub invariant-loop-i : goal.invariant-loop-i
invariant-loop-i l = behind_first (l.quote ∷ []) l.bytes ≡ behind_first (l.quote ∷ []) (drop l.i l.bytes)
