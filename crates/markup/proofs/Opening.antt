-- The names of the open tags as they are pushed and taken: the first d of xs, by f.
use Rattle.std.proofs.Common.{◌≡◌, sym, ap, ◌∙◌, ℕ, ◌+◌, ◌<◌, ◌≤◌, List, [], ◌∷◌, ◌++◌, length, map, take, reverse, get_or, arith, Option, None, Some}
use Rattle.std.proofs.Math.ListN.{set}
use Rattle.std.proofs.lemmas.List.{take_more, take_more_set, length-take-le, length-map, length-reverse, reverse-append, map-append}
use Rattle.std.specs.Option.{unwrap_or}
use Rattle.markup.specs.Open.{name_in, open_names, Few}
use Rattle.markup.specs.declared.section.Open.TheInside.{Inside}
use denote.Ref.{Bor}

module _ {X : Type 0} (f : X → List ℕ) (xs : List X) (d : ℕ) where
  pub names-length : d ≤ length xs → length (reverse (map f (take d xs))) ≡ d
  names-length h = length-reverse (map f (take d xs)) ∙ length-map (take d xs) f ∙ length-take-le d xs h

  grown : (x : X) (ys : List X) → ys ≡ take d xs ++ x ∷ [] → reverse (map f ys) ≡ f x ∷ reverse (map f (take d xs))
  grown x ys e = rw e (ap reverse (map-append f (take d xs) (x ∷ [])) ∙ reverse-append (map f (take d xs)) (f x ∷ []))

  pub names-pushed : d < length xs → (x : X) → reverse (map f (take (d + 1) (set xs d x))) ≡ f x ∷ reverse (map f (take d xs))
  names-pushed h x = grown x _ (take_more_set xs d x h)

  pub names-taken : (e : ℕ) → d + 1 ≡ e → d < length xs → (z : X) → reverse (map f (take e xs)) ≡ f (get_or xs d z) ∷ reverse (map f (take d xs))
  names-taken e i h z = rw (← i) (grown (get_or xs d z) _ (take_more xs d z h))

-- there is room for one more
pub has-room : (o : Inside) → Few o → (names : List (List ℕ)) → open_names o ≡ names → length names < 64 → o.depth < 64
has-room o i names v l =
    let n : length (open_names o) ≡ o.depth = names-length name_in o.names o.depth (omega (arith, i.most, i.room)) in
    rw (← n, v) l

-- a name that was pushed
pub name-of : (o : Option (Bor (List ℕ))) (e r : Bor (List ℕ)) → r ≡ unwrap_or o e → e.now ≡ [] → name_in o ≡ r.now
unfolding name_in
name-of None e r h z = rw h (sym z)
name-of (Some n) e r h z = rw h
