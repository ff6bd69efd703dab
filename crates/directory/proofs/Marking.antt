-- Laws of the flags by which the chunks of a sub-block are judged once. Assumes nothing.
use Prim.Native.Nat.{ℕ, zero, suc, ◌+◌}
use mathlib.Core.Path.{◌≡◌, refl, sym, ◌∙◌}
use mathlib.Core.List.{List, ◌++◌}
use mathlib.Core.Bool.{Bool, true, false}
use native.Mathlib.Omega.{arith}
use lib.ListN.{get_or, set, length-set, replicate, length-replicate}
use lib.Seq.{get_or-set_other, get_or-set_same}
use lib.Dec.{eqb}
use borrow.Author.Tests.{eqb-true, eqb-false}
use Rattle.std.specs.Prelude.{Err}
use Rattle.format.specs.Checks.{Verdict, Accepted, Check, first}
use Rattle.format.specs.Segments.{walked}
use Rattle.format.specs.Scan.{Scan, block_file}
use Rattle.format.specs.Entry.{file_position}
use Rattle.format.specs.Directory.{tile_rows, attachment_rows}
use Rattle.format.specs.declared.Release.{Release}
use Rattle.format.specs.declared.Refusal.{Refusal}
use Rattle.subblocks.proofs.OwnCopy.{own-rows}
use Rattle.directory.proofs.Stages.{then-stop, then_next}
use Rattle.directory.specs.Marks.{block_rows, body_rows, ChunksAccepted, Marked, ChunksKnown, AnsweredMarked, ChunksAnswered}

-- ---- no flag is set

zeros : (n k : ℕ) → get_or {A = ℕ} (replicate n 0) k 0 ≡ 0
zeros zero k = refl
zeros (suc n) zero = refl
zeros (suc n) (suc k) = zeros n k

pub none-marked : (bs : List ℕ) (r : Release) → Marked bs (replicate 8192 0) r
none-marked bs r = record { size = length-replicate {A = ℕ} 8192 0; right = λ k h. absurd (h (zeros 8192 k)) }

-- ---- rows judged after others, with flags that are right

module _ (bs flags : List ℕ) (r : Release) (v : Verdict) (a b : List Check) (e : v ≡ first a) where
  pub answered-stop : (x : Refusal) → Marked bs flags r → v ≡ Err x → AnsweredMarked bs (a ++ b) flags r (Err x)
  answered-stop x k h = record { verdict-is = then-stop v a b x e h; marked = k }

  pub answered-next : (w : Verdict) → v ≡ Accepted → AnsweredMarked bs b flags r w → AnsweredMarked bs (a ++ b) flags r w
  answered-next w h k = record { verdict-is = then_next v w a b e h k.verdict-is; marked = k.marked }

-- the rows behind an entry's head: those of the tile, and those of its sub-block, which is at q
pub body-next : (sc : Scan) (flags : List ℕ) (e q : ℕ) (v w : Verdict) → v ≡ first (tile_rows sc.file e (block_file sc e)) → v ≡ Accepted
    → q ≡ file_position sc.file e → AnsweredMarked (block_file sc e) (block_rows sc.file e (block_file sc e) q sc.release) flags sc.release w
    → AnsweredMarked (block_file sc e) (body_rows sc e) flags sc.release w
body-next sc flags e q v w j a f k =
    rw (← f)
    (answered-next (block_file sc e) flags sc.release v (tile_rows sc.file e (block_file sc e))
    (block_rows sc.file e (block_file sc e) q sc.release) j w a k)

-- ---- the chunks of the sub-block at q of the file bs, its entry at e of the file ds

module _ (ds : List ℕ) (e : ℕ) (bs : List ℕ) (q : ℕ) (flags : List ℕ) (k : ℕ) (r : Release) (f : ChunksKnown ds e bs q flags k r) where
  own : attachment_rows ds e bs q r ≡ attachment_rows bs (q + 48) bs q r
  own = own-rows ds e bs q f.filled.agreed.block r

  -- its flag is set: they were accepted for an entry before this one
  pub judged-before : (get_or flags k 0 ≡ 0 → ⊥) → ChunksAnswered bs (attachment_rows ds e bs q r) flags k r Accepted
  unfolding ChunksAccepted
  judged-before h = record {
    answered = record { verdict-is = rw own (sym (rw f.stands.at at (f.marked.right k h))); marked = f.marked };
    flagged = λ _. h;
  }

  -- they are refused: no flag is set
  pub judged-refused : (v : Verdict) (x : Refusal) → v ≡ first (attachment_rows ds e bs q r) → v ≡ Err x
      → ChunksAnswered bs (attachment_rows ds e bs q r) flags k r (Err x)
  judged-refused v x j h = record {
    answered = record { verdict-is = sym h ∙ j; marked = f.marked };
    flagged = λ a. let z : ◌≡◌ {A = ℕ} 0 1 = cc in absurd (omega arith);
  }

  -- they are accepted: the flag is set
  module _ (v : Verdict) (j : v ≡ first (attachment_rows ds e bs q r)) (a : v ≡ Accepted) where
    accepted : ChunksAccepted bs (get_or (walked bs) k 0) r
    unfolding ChunksAccepted
    accepted = rw (f.stands.at, ← own) (sym j ∙ a)

    pub judged-now : ChunksAnswered bs (attachment_rows ds e bs q r) (set flags k 1) k r Accepted
    judged-now = record {
      answered = record {
        verdict-is = sym a ∙ j;
        marked = record { size = length-set flags k 1 ∙ f.marked.size; right = λ i h. go i (eqb i k) refl h };
      };
      flagged = λ _ z.
          let one : get_or (set flags k 1) k 0 ≡ 1 = get_or-set_same flags k 1 0 (omega (arith, f.stands.below, f.marked.size)) in
          omega arith;
    }
      where
        go : (i : ℕ) (b : Bool) → eqb i k ≡ b → (get_or (set flags k 1) i 0 ≡ 0 → ⊥) → ChunksAccepted bs (get_or (walked bs) i 0) r
        go i true n h = rw (eqb-true i k n) accepted
        go i false n h = f.marked.right i (λ z. h (get_or-set_other flags k i 1 0 (eqb-false i k n) ∙ z))
