-- How the call that fills lent arrays answers: by the file's verdict, answered as v, and by whether they are too short. Assumes nothing.
use Prim.Native.Nat.{ℕ}
use mathlib.Core.Path.{◌≡◌, refl, sym, ◌∙◌}
use mathlib.Core.List.{List, [], ◌∷◌}
use mathlib.Core.Bool.{Bool, true, false}
use lib.IntN.{ℤ}
use Rattle.std.specs.Prelude.{Ok, Err}
use Rattle.format.specs.Scan.{Scan}
use Rattle.format.specs.Checks.{Verdict, Accepted, Refused, refusal, row}
use Rattle.format.specs.Rules.{checks, verdict}
use Rattle.format.specs.Answers.{VerdictAnswered}
use Rattle.format.specs.declared.Fault.TheVariants as Fault
use Rattle.format.specs.declared.Refusal.{Refusal}
use Rattle.format.proofs.Answering.{verdict-answered, value-refused, value-found}
use Rattle.directory.proofs.Stages.{then-stop, then_next}
use Rattle.tables.specs.Tables.{table_verdict, Arrays, TableAnswered}

-- a refusal accepts nothing
refused-not : {P : Type 0} {e : Refusal} → Err e ≡ Accepted → P
refused-not h = absurd (cc)

-- ---- what the arrays hold, by the verdict w

module _ {w : Verdict} {full : Type 0} {numbers₀ : List ℕ} {starts₀ : List ℤ} where
  kept : {e : Refusal} → Err e ≡ w → Arrays w full numbers₀ starts₀ numbers₀ starts₀
  kept i = record { refused = λ r h. (refl, refl); accepted = λ h. refused-not (i ∙ h) }

  filled : {numbers : List ℕ} {starts : List ℤ} → Accepted ≡ w → full → Arrays w full numbers₀ starts₀ numbers starts
  filled i f = record { refused = λ r h. refused-not (sym h ∙ sym i); accepted = λ h. f }

-- ---- the answer: of the file's verdict, of the arrays' length where that accepts

module _ (sc : Scan) (short : Bool) (v : Verdict) (a : VerdictAnswered (verdict sc) v) (rows : ℕ) where
  module _ (e : Refusal) (h : v ≡ Err e) where
    refused-is : Err e ≡ table_verdict sc short
    unfolding verdict
    refused-is = then-stop v (checks sc) (row Fault.LentTooShort 0 short ∷ []) e a.answer_is h

    pub file-refused : TableAnswered (table_verdict sc short) rows (Err e)
    file-refused = value-refused (verdict-answered refused-is) refl

    pub file-kept : {full : Type 0} {numbers₀ : List ℕ} {starts₀ : List ℤ} → Arrays (table_verdict sc short) full numbers₀ starts₀ numbers₀ starts₀
    file-kept = kept refused-is

  module _ (h : v ≡ Accepted) (b : Bool) (g : b ≡ short) where
    short-is : b ≡ true → Refused Fault.LentTooShort 0 ≡ table_verdict sc short
    unfolding verdict
    short-is t = then_next v (Refused Fault.LentTooShort 0) (checks sc) (row Fault.LentTooShort 0 short ∷ []) a.answer_is h (rw (← g, t))

    pub too_short : b ≡ true → TableAnswered (table_verdict sc short) rows (Err (refusal Fault.LentTooShort 0))
    too_short t = value-refused (verdict-answered (short-is t)) refl

    pub short-kept : {full : Type 0} {numbers₀ : List ℕ} {starts₀ : List ℤ} → b ≡ true
        → Arrays (table_verdict sc short) full numbers₀ starts₀ numbers₀ starts₀
    short-kept t = kept (short-is t)

    enough-is : b ≡ false → Accepted ≡ table_verdict sc short
    unfolding verdict
    enough-is t = then_next v Accepted (checks sc) (row Fault.LentTooShort 0 short ∷ []) a.answer_is h (rw (← g, t))

    pub enough : (n : ℕ) → n ≡ rows → b ≡ false → TableAnswered (table_verdict sc short) rows (Ok n)
    enough n e t = value-found (verdict-answered (enough-is t)) refl e

    pub enough-filled : {full : Type 0} {numbers₀ numbers : List ℕ} {starts₀ starts : List ℤ} → b ≡ false → full
        → Arrays (table_verdict sc short) full numbers₀ starts₀ numbers starts
    enough-filled t f = filled (enough-is t) f
