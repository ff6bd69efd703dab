use Rattle.format.specs.Scan.{scan_of}
use Rattle.directory.proofs.Stages.{Entries}
use Rattle.directory.proofs.judge_entries.Given as goal

abbrev pub invariant-loop-k : goal.invariant-loop-k
invariant-loop-k l = Entries (scan_of l.walk.file.now l.release) l.judged l.d l.n l.e l._k
