-- A scan: what is judged, and what parts, records and planes are taken from. It is one file, and the release that it is judged by.
use Rattle.std.specs.Prelude.{ℕ, List}
use Rattle.format.specs.declared.Release.{Release}

pub record Scan : Type 0 where
  pub file : List ℕ
  pub release : Release

-- the scan of one lent file, under a release
abbrev pub scan_of : List ℕ → Release → Scan
scan_of bs r = record { file = bs; release = r }

-- the file that holds the sub-block which the entry at e names
abbrev pub block_file : Scan → ℕ → List ℕ
block_file sc e = sc.file
