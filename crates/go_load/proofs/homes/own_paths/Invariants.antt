use Rattle.std.proofs.Common.{◌≡◌, take}
use Rattle.go_module.specs.Modules.Paths.{own_paths}
use Rattle.go_load.proofs.homes.own_paths.Given as goal

abbrev pub invariant-loop-head : goal.invariant-loop-head
invariant-loop-head l = l.paths.items ≡ own_paths l.module_path (take l.head-index l.heads)
