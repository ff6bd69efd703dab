-- A stretch that lies in a file.
use Rattle.std.specs.Prelude.{ℕ, ◌+◌, ◌≤◌, List, length}
use Rattle.format.specs.declared.Span.{Span}

abbrev pub Within : List ℕ → Span → Type 0
Within bs s = s.start + s.length ≤ length bs
