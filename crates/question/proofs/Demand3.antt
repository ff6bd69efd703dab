-- Demand 3 about whole calls, entire: of any file bytes, any question and any lent bytes. Assumes nothing.
use Prim.Native.Nat.{ℕ, ◌+◌}
use mathlib.Core.Path.{refl, sym, ap, ap₂, ◌∙◌, subst₂}
use lib.ListN.{length}
use Rattle.format.proofs.Firsts.{by-verdict}
use Rattle.plane.specs.Paint.{ones}
use Rattle.plane.specs.Tiles.{area}
use Rattle.plane.specs.Turns.{Painting}
use Rattle.plane.specs.Cuts.{fore, rear, SamePixels}
use Rattle.question.specs.Call.{call_verdict, asked_window, asked_bytes, answer, target_after, map_after, number_in, place_in, covered_in}
use Rattle.question.specs.Demand3.{AllCalls, Agree, fore_request, rear_request}
use Rattle.question.proofs.Accepts.{call_ok}
use Rattle.question.proofs.Calls.{proper, room, ranked, runs, after_is, covered-is}
use Rattle.question.proofs.Halves.{fore-half, rear-half, rear-int32, half-accepted, half_room, half-after, half-covered}

pub all-calls : AllCalls
unfolding answer target_after map_after
all-calls a left top t m =
    let v = call_verdict a (length t) (length m) in
    let w = asked_window a in
    let b = asked_bytes a in
    record {
      same_number = by-verdict v (λ e. rw e) (λ f e. rw e);
      same_place = by-verdict v (λ e. rw e) (λ f e. rw e);
      same_covered = by-verdict v (λ e. rw e (ap (ones (area w)) ((runs a t m e).agree w t m (room a t m e)).1)) (λ f e. rw e);
      same_target = by-verdict v (λ e. rw e ((runs a t m e).agree w t m (room a t m e)).0) (λ f e. rw e);
      same_map = by-verdict v (λ e. rw e ((runs a t m e).agree w t m (room a t m e)).1) (λ f e. rw e);
      refused = λ f p e k. rw e (refl, refl, refl, refl, refl, refl);
      accepted = λ e k.
          let d = runs a t m e in
          let r = room a t m e in
          rw e (refl, d.plane k w t m r, refl, d.covered-is k w t m r, d.stores k w t m);
      quick_stores = by-verdict v (λ e. rw e ((runs a t m e).quick_stores w t m (room a t m e))) (λ f e. rw e);
      plain_stores = λ e. rw e ((runs a t m e).plain_stores w t m);
      ranked = ranked a t m;
      runs = runs a t m;
      cut = λ e l c k k₁ k₂ t₁ m₁ t₂ m₂ r₁ r₂.
          let o = call_ok a (length t) (length m) e in
          let halves = (runs a t m e).halves l w c (proper a t m e) in
          let f₁ = fore_request l a.request in
          let f₂ = rear_request l a.request in
          let h₁ = fore-half l a in
          let h₂ = rear-half l a left top in
          let int32 = rear-int32 l a left top (proper a t m e) c in
          let e₁ = half-accepted a (fore l w) f₁ h₁ (length t) (length m) o halves.fore_proper halves.fore_meets t₁ m₁ r₁ in
          let e₂ = half-accepted a (rear l w) f₂ h₂ (length t) (length m) o halves.rear_proper halves.rear_meets t₂ m₂ r₂ in
          let same =
          (runs a t m e).cut l w c k k₁ k₂ t m t₁ m₁ t₂ m₂ (room a t m e)
          (half_room a (fore l w) f₁ h₁ t₁ m₁ e₁)
          (half_room a (rear l w) f₂ h₂ t₂ m₂ e₂) in
          let whole_is = sym (after_is a t m e k) in
          let fore-is = sym (half-after a (fore l w) f₁ h₁ t₁ m₁ e₁ k₁) in
          let rear-is = sym (half-after a (rear l w) f₂ h₂ t₂ m₂ e₂ k₂) in (
            halves,
            int32.0,
            int32.1,
            h₁.window,
            h₂.window,
            e₁,
            e₂,
            subst₂ (λ (s s₁ : Painting). SamePixels b w (fore l w) s s₁) whole_is fore-is same.0,
            subst₂ (λ (s s₂ : Painting). SamePixels b w (rear l w) s s₂) whole_is rear-is same.1,
            covered-is a t m e k ∙ same.2
                ∙ ap₂ (λ (n n' : ℕ). n + n') (sym (half-covered a (fore l w) f₁ h₁ t₁ m₁ e₁ k₁)) (sym (half-covered a (rear l w) f₂ h₂ t₂ m₂ e₂ k₂)),
          );
    }

pub agree : Agree
agree a left top t m t₁ m₁ t₂ m₂ r₁ r₂ p q =
    let d = all-calls a left top t m in (
      ap number_in p.answer_is ∙ d.same_number ∙ sym (ap number_in q.answer_is),
      ap place_in p.answer_is ∙ d.same_place ∙ sym (ap place_in q.answer_is),
      ap covered_in p.answer_is ∙ d.same_covered ∙ sym (ap covered_in q.answer_is),
      p.target_is ∙ d.same_target ∙ sym q.target_is,
      p.map_is ∙ d.same_map ∙ sym q.map_is,
    )
