use Rattle.std.proofs.Common.{take}
use Rattle.go_base.specs.Tree.{HasDistinctPaths}
use Rattle.go_base.proofs.files.has_distinct_paths.Given as goal

abbrev pub invariant-loop-i : goal.invariant-loop-i
invariant-loop-i l = HasDistinctPaths (take l.i l.files)
