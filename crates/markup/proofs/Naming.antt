-- Whether bytes are a name.
use Rattle.std.proofs.Common.{◌≡◌, refl, sym, ◌∙◌, ℕ, Bool, true, false, not, List, [], ◌∷◌, length, get_or, nat_eq}
use Rattle.std.proofs.Math.Dec.{eqb-suc-zero}
use Rattle.format.specs.Markup.{begins_name}

pub unnamed : (bs : List ℕ) (r : Bool) → r ≡ nat_eq (length bs) 0 → r ≡ true → not r ≡ begins_name bs
unfolding begins_name
unnamed [] r e h = rw h
unnamed (b ∷ bs) r e h = cc (sym h ∙ e ∙ eqb-suc-zero (length bs))

pub named : (bs : List ℕ) (r : Bool) → r ≡ nat_eq (length bs) 0 → r ≡ false → not (nat_eq (get_or bs 0 0) 33) ≡ begins_name bs
unfolding begins_name
named [] r e h = cc (sym h ∙ e)
named (b ∷ bs) r e h = refl
