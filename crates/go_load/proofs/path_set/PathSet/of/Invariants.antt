use Rattle.std.proofs.Common.{◌≡◌, [], take}
use Rattle.std.specs.Prelude.{fold}
use Rattle.go_load.specs.Packages.PathSets.{with_path}
use Rattle.go_load.proofs.path_set.PathSet.of.Given as goal

abbrev pub invariant-loop-path : goal.invariant-loop-path
invariant-loop-path l = l.set ≡ fold with_path [] (take l.path-index l.paths)
