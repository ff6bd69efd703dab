-- What a file is lent with in a call for C: the number of the release that it is judged by.
use Rattle.std.specs.Prelude.{ℕ, List, cond, eqb}
use Rattle.format.specs.Scan.{Scan, scan_of}
use Rattle.format.specs.declared.Release.{Release}
use Rattle.format.specs.declared.Release.TheVariants.{R102, R12}

-- the release of a number: 1 is 1.02, any other 1.2
unfoldable pub release_of : ℕ → Release
release_of n = cond (eqb n 1) R102 R12

-- the scan of the lent file under the release of that number
abbrev pub lent_scan : List ℕ → ℕ → Scan
lent_scan bs n = scan_of bs (release_of n)
