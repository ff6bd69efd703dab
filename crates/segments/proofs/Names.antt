-- The names that refusal 2 allows, one after another. Assumes nothing.
use Prim.Native.Nat.{ℕ, ◌+◌, ◌<◌, ◌≤◌}
use mathlib.Core.Path.{◌≡◌, refl, sym, ◌∙◌}
use mathlib.Core.List.{List, [], ◌∷◌, map}
use mathlib.Core.Bool.{Bool, true, false, not}
use lib.ListN.{length, get_or, drop}
use lib.Seq.{drop-cons}
use native.Mathlib.Numerals.{add-one}
use Rattle.std.proofs.lemmas.List.{drop_all}
use Rattle.format.specs.Bytes.{same_at, any_of}
use Rattle.format.specs.Segments.{name_bad}
use Rattle.segments.specs.Kinds.{name_of}
use Rattle.segments.specs.declared.kinds.Kind.{Kind}
use Rattle.segments.specs.declared.kinds.Kind.TheVariants as Kind

-- whether the name of one of the kinds ks stands at p
abbrev pub AnyStands : List ℕ → ℕ → List Kind → Bool
AnyStands bs p ks = any_of (map (λ k. same_at bs p (name_of k)) ks)

abbrev pub all_kinds : List Kind
all_kinds =
    Kind.File ∷
    Kind.Directory ∷
    Kind.SubBlock ∷
    Kind.Metadata ∷
    Kind.Attachment ∷
    Kind.AttachmentDirectory ∷
    Kind.Deleted ∷
    []

pub names-all : (bs : List ℕ) (p : ℕ) → name_bad bs p ≡ not (AnyStands bs p all_kinds)
unfolding name_bad
names-all bs p = refl

-- ---- along the kinds ks: those before i are none, and x is what is to be answered

module _ (bs : List ℕ) (p : ℕ) (ks : List Kind) (i : ℕ) (x : Bool) (e : x ≡ not (AnyStands bs p (drop i ks))) where
  module _ (d : Kind) (r : Bool) (h : i < length ks) (f : r ≡ same_at bs p (name_of (get_or ks i d))) where
    here : drop i ks ≡ get_or ks i d ∷ drop (i + 1) ks
    here = rw add-one (drop-cons ks i d h)

    pub names-stop : r ≡ true → false ≡ x
    unfolding any_of
    names-stop t = sym (e ∙ rw (here, ← f, t))

    pub names-next : r ≡ false → x ≡ not (AnyStands bs p (drop (i + 1) ks))
    unfolding any_of
    names-next t = e ∙ rw (here, ← f, t)

  pub names_end : length ks ≤ i → true ≡ x
  unfolding any_of
  names_end h = sym (e ∙ rw (drop_all i ks h))
