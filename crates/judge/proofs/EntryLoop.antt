-- A loop over the first n entries of an accepted file bs: k of them are passed, and the next is at e. Assumes nothing.
use Prim.Native.Nat.{ℕ, ◌+◌, ◌≤◌, ◌<◌}
use native.Mathlib.Numerals.{add-one}
use native.Mathlib.Omega.{arith}
use mathlib.Core.Path.{◌≡◌}
use mathlib.Core.List.{List}
use mathlib.Core.Bool.{false}
use lib.ListN.{length}
use Rattle.format.specs.Entry.{next_entry, dimensions_bad}
use Rattle.format.specs.Directory.{tile_count, entry_place}
use Rattle.format.specs.Rules.{AcceptedFile}
use Rattle.subblocks.specs.Judged.{Listed}
use Rattle.subblocks.proofs.PartLaws.{listed_in}
use Rattle.judge.proofs.AcceptedFile.{tiled-file}

pub record AtEntry (bs : List ℕ) (n e k : ℕ) : Type 0 where
  pub count : k ≤ n
  pub place : e ≡ entry_place bs k

pub at-start : (bs : List ℕ) (n e : ℕ) → e ≡ entry_place bs 0 → AtEntry bs n e 0
at-start bs n e p = record { count = omega arith; place = p }

module _ (bs : List ℕ) (n e k : ℕ) (w : AtEntry bs n e k) where
  pub at_next : (p : ℕ) → k < n → p ≡ next_entry bs e → AtEntry bs n p (k + 1)
  unfolding entry_place
  at_next p l f = record { count = omega arith; place = rw (f, add-one, w.place) }

  pub at-end : n ≤ k → e ≡ entry_place bs n
  at-end h = let f : k ≡ n = omega (arith, w.count) in rw f at w.place

  module _ (a : AcceptedFile bs) (m : n ≤ tile_count bs) (l : k < n) where
    at_listed : Listed bs e
    at_listed = rw w.place ((tiled-file bs a).listed k (omega arith))

    -- what may be read of the entry
    pub at-fixed : e + 32 ≤ length bs
    at-fixed = listed_in bs e at_listed

    pub at-whole : next_entry bs e ≤ length bs
    at-whole = at_listed.entry

    pub at-dimensions : dimensions_bad bs e ≡ false
    at-dimensions = at_listed.dimensions
