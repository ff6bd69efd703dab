-- How an answer comes about: by a verdict w, which was answered as v. Assumes nothing.
use mathlib.Core.Path.{◌≡◌, ap, sym, ◌∙◌}
use Rattle.std.specs.Prelude.{Ok, Err}
use Rattle.format.specs.Checks.{Verdict, Accepted, number_of, place_of}
use Rattle.format.specs.Records.{span_if}
use Rattle.format.specs.Answers.{VerdictAnswered, ValueAnswered, SpanAnswered}
use Rattle.format.specs.declared.Refusal.{Refusal}
use Rattle.format.specs.declared.Span.{Span}

pub verdict-answered : {v r : Verdict} → r ≡ v → VerdictAnswered v r
verdict-answered e = record { answer_is = e; number_is = ap number_of e; place_is = ap place_of e }

module _ {v w : Verdict} (a : VerdictAnswered w v) where
  pub accepted : v ≡ Accepted → w ≡ Accepted
  accepted h = sym a.answer_is ∙ h

  pub span-refused : (s : Span) {e : Refusal} → v ≡ Err e → SpanAnswered w (span_if w s) (Err e)
  span-refused s h = rw (← a.answer_is, h) (search)

  pub span-found : {s r : Span} → v ≡ Accepted → r ≡ s → SpanAnswered w (span_if w s) (Ok r)
  span-found h k = rw (← a.answer_is, h) (search)

  pub value-refused : {A : Type 0} {none x : A} {e : Refusal} → v ≡ Err e → ValueAnswered none w x (Err e)
  value-refused h = rw (← a.answer_is, h) (search)

  pub value-found : {A : Type 0} {none x r : A} → v ≡ Accepted → r ≡ x → ValueAnswered none w x (Ok r)
  value-found h k = rw (← a.answer_is, h) (search)
