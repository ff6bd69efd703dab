-- How many segments the new file has, and refusal 36. Assumes nothing.
use Prim.Native.Nat.{ℕ, ◌+◌, ◌^◌, ◌≤◌, ◌<◌}
use mathlib.Core.Path.{◌∙◌, ◌≡◌, refl, sym}
use mathlib.Core.List.{List, [], ◌∷◌}
use mathlib.Core.Bool.{Bool, true, false, cond}
use native.Mathlib.Omega.{arith}
use lib.ListN.{length}
use lib.Dec.{eqb, ltb}
use mir.Syntax.{w64}
use mir.Val.{Fits}
use borrow.Author.Tests.{lt-ltb, le-ltb}
use Rattle.format.specs.Bytes.{any_of}
use Rattle.format.specs.File.{metadata_position, attachment_directory_position}
use Rattle.format.specs.Directory.{tile_count}
use Rattle.format.specs.Attachments.{attachment_count}
use Rattle.format.specs.Rules.{AcceptedFile}
use Rattle.format.proofs.Flags.{any-skip, any_last}
use Rattle.repacked.specs.NewFile.{if_named, new_segments, new_end}
use Rattle.repacked.specs.Refusals.{too_large}
use Rattle.repacked.proofs.Lengths.{kept}
use Rattle.repacked.proofs.Places.{new-count, too-large-is}
use Rattle.repack.specs.Places.{PlacesAre}
use Rattle.repack.specs.declared.sizes.Places.{Places}
use Rattle.repack.proofs.Bounds.{tiles-few, attachments-few}

-- ---- their number, added up: there are n tiles and k attachments, and i and j say whether there are a metadata segment and an attachment directory

one-most : (q : ℕ) → if_named q 1 0 ≤ 1
one-most q = go (eqb q 0)
  where
    go : (b : Bool) → cond b 0 1 ≤ 1
    go true = omega arith
    go false = omega arith

module _ (bs : List ℕ) (a : AcceptedFile bs) (n k : ℕ) (c : n ≡ tile_count bs) (d : k ≡ attachment_count bs) where
  pub count_fits : Fits w64 (2 + n)
  count_fits = omega (arith, tiles-few bs a)

  module _ (i j m t : ℕ) (e : m ≡ metadata_position bs) (f : t ≡ attachment_directory_position bs) (g : i ≡ if_named m 1 0) (h : j ≡ if_named t 1 0) where
    count_most : 2 + n + i + j + k ≤ 8196
    count_most = omega (arith, tiles-few bs a, attachments-few bs a, one-most m, one-most t)

    pub count-fits₂ : Fits w64 (2 + n + i)
    count-fits₂ = omega (arith, count_most)

    pub count-fits₃ : Fits w64 (2 + n + i + j)
    count-fits₃ = omega (arith, count_most)

    pub count-fits₄ : Fits w64 (2 + n + i + j + k)
    count-fits₄ = omega (arith, count_most)

    pub count-is : 2 + n + i + j + k ≡ length (new_segments bs)
    count-is = rw (new-count bs, ← c, ← d, ← e, ← f) (rw (g, h))

-- ---- refusal 36, where there are n segments and p says where the file ends

module _ (bs : List ℕ) (a : AcceptedFile bs) (n : ℕ) (c : n ≡ length (new_segments bs)) where
  by_both : {b b' : Bool} → ltb 8192 n ≡ b → ltb (2 ^ 40) (new_end bs) ≡ b' → too_large bs ≡ any_of (b ∷ b' ∷ [])
  by_both e f = rw (too-large-is bs (kept bs a), ← c, e, f)

  pub large-count : 8192 < n → ltb 8192 n ≡ too_large bs
  unfolding any_of
  large-count h = lt-ltb 8192 n h ∙ sym (by_both (lt-ltb 8192 n h) refl)

  pub large-end : n ≤ 8192 → (p : Places) → PlacesAre bs p → ltb (2 ^ 40) p.end ≡ too_large bs
  large-end h p w = any-skip _ false _ refl (any_last _ _ (rw w.end)) ∙ sym (by_both (le-ltb 8192 n h) refl)
