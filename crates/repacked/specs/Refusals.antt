-- The refusals of a repack: 36 and 25 behind the file's own.
use Rattle.std.specs.Prelude.{ℕ, ◌^◌, List, [], ◌∷◌, ◌++◌, Bool, length, ltb}
use Rattle.format.specs.Bytes.{any_of}
use Rattle.format.specs.Scan.{Scan}
use Rattle.format.specs.Checks.{Verdict, row, first}
use Rattle.format.specs.Rules.{checks}
use Rattle.repacked.specs.NewFile.{new_segments, repacked}
use Rattle.format.specs.declared.Fault.TheVariants as Fault

-- refusal 36: the new file would have over 8,192 segments or 2^40 bytes
unfoldable pub too_large : List ℕ → Bool
too_large bs = any_of (ltb 8192 (length (new_segments bs)) ∷ ltb (2 ^ 40) (length (repacked bs)) ∷ [])

-- the refusals of a question for the new file's length
unfoldable pub size_verdict : Scan → Verdict
size_verdict sc = first (checks sc ++ (row Fault.RepackTooLarge 0 (too_large sc.file) ∷ []))

-- those of a repack into a buffer of a length: 25 where the buffer is shorter than the new file
unfoldable pub repack_verdict : Scan → ℕ → Verdict
repack_verdict sc out = first (checks sc ++ (row Fault.RepackTooLarge 0 (too_large sc.file) ∷ row Fault.RepackBuffer 0 (ltb out (length (repacked sc.file))) ∷ []))
