-- `entries::layers_of` meets its contract.
use Prim.Native.Nat.{ℕ, ◌^◌, ◌<◌}
use mathlib.Core.Path.{◌≡◌, sym, ◌∙◌}
use mathlib.Core.List.{List}
use mathlib.Core.Bool.{Bool, true}
use lib.IntN.{ℤ}
use lib.Signed.{mag}
use mir.Syntax.{w32}
use mir.Val.{of_z, to_z}
use borrow.Author.Rules.{rules}
use Rattle.std.specs.Prelude.{Option, Some}
use Rattle.format.specs.Bytes.{signed32}
use Rattle.format.specs.Entry.{letter, start, size, is_layered, layers_place}
use Rattle.format.specs.Records.{layers_of}
use Rattle.format.specs.declared.Layers.{Layers}
use Rattle.entries.proofs.EntryLaws.{layers-in}
use Rattle.entries.proofs.ReadBack.{read_back}
use Rattle.entries.proofs.layers_of.Goals as goal

-- the record of what was read of the dimension at d: its letter x, its start t, as z, and its size n
layers-read : (bs : List ℕ) (e d x t n : ℕ) (z : ℤ) (r : Bool) → r ≡ is_layered bs e → r ≡ true → d ≡ layers_place bs e → x ≡ letter bs d → t ≡ start bs d
    → z ≡ signed32 t → mag z < 2 ^ 31 → n ≡ size bs d
    → ◌≡◌ {A = Option Layers} (Some (record { letter = x; start = to_z w32 (of_z w32 z); size = n })) (layers_of bs e)
unfolding layers_of
layers-read bs e d x t n z r i j k l m o p q = rw (sym i ∙ j, read_back z p, l, o, m, q, k)

pub is_layered-requires : goal.is_layered-requires
unfolding layers_of
is_layered-requires c = search rules

pub layers_place-d-requires : goal.layers_place-d-requires
unfolding layers_of
layers_place-d-requires c = search rules

pub letter_at-letter-requires : goal.letter_at-letter-requires
unfolding layers_of
letter_at-letter-requires c = search layers-in

pub start_at-requires : goal.start_at-requires
unfolding layers_of
start_at-requires c = search layers-in

pub signed_of-start-requires : goal.signed_of-start-requires
unfolding layers_of
signed_of-start-requires c = search rules

pub size_at-size-requires : goal.size_at-size-requires
unfolding layers_of
size_at-size-requires c = search layers-in

pub returns-then-is_layered : goal.returns-then-is_layered
returns-then-is_layered c = search layers-read

pub returns : goal.returns
unfolding layers_of
returns c = rw (sym c.is_layered.ensures ∙ c.if-is_layered.false)
