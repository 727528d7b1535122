use Rattle.std.proofs.Common.{◌≡◌, map, not, take}
use Rattle.go_load.proofs.packages.own_packages.Given as goal

abbrev pub invariant-loop-stub : goal.invariant-loop-stub
invariant-loop-stub l = l.own.items ≡ map not (take l.stub-index l.stubs)
