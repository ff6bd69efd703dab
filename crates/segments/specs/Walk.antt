-- What a walk answers, the table that it leaves, and the index of a walked segment.
use Rattle.std.specs.Prelude.{ℕ, ◌≤◌, ◌≡◌, List, ◌++◌, cond, Result, Option, Some, None, length, drop, get_or, eqb}
use Rattle.format.specs.Bytes.{least_below}
use Rattle.format.specs.Checks.{Verdict, answer_if}
use Rattle.format.specs.Answers.{ValueAnswered}
use Rattle.format.specs.Segments.{walked, walked_as}
use Rattle.format.specs.declared.Refusal.{Refusal}

-- the answer r where the verdict is v and the walked positions are l: how many those are, 0 where it refuses
abbrev pub SegmentsAnswered : Verdict → List ℕ → Result ℕ Refusal → Type 0
SegmentsAnswered v l r = ValueAnswered 0 v (length l) r

-- the answer r of a walk whose verdict is v and whose walked positions are l: the table holds them from its start, and past them what it held before
pub record WalkAnswered (v : Verdict) (l before after : List ℕ) (r : Result ℕ Refusal) : Type 0 where
  pub answer_is : r ≡ answer_if v (length l)
  pub table_is : after ≡ l ++ drop (length l) before

-- the index of q in l; the length of l where it is not there
unfoldable pub index_in : ℕ → List ℕ → ℕ
index_in q l = least_below (length l) (λ k. eqb (get_or l k 0) q)

-- the index of the walked segment that q names, of the kind that has that name, if there is one
unfoldable pub index_as : List ℕ → ℕ → List ℕ → Option ℕ
index_as bs q name = cond (walked_as bs q name) (Some (index_in q (walked bs))) None
