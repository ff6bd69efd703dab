-- A view: the very part of a lent slice, and not only bytes that are equal to it.
use Rattle.std.specs.Prelude.{ℕ, ◌+◌, ◌≡◌, List}
use Rattle.std.specs.Borrow.{Bor}
use Rattle.format.specs.Bytes.{part_of}
use Rattle.format.specs.declared.Span.{Span}

-- the slice r is the stretch v of the lent slice s: it lies in the same block of memory, its first byte v's start behind that of s
pub record View (s : Bor (List ℕ)) (v : Span) (r : Bor (List ℕ)) : Type 0 where
  pub bytes : r.now ≡ part_of s.now v.start v.length
  pub block : r.ref_ptr.0 ≡ s.ref_ptr.0
  pub first_byte : r.ref_ptr.1 ≡ s.ref_ptr.1 + v.start
