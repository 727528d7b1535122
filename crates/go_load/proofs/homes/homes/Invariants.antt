use Rattle.std.proofs.Common.{◌≡◌, take}
use Rattle.go_module.specs.Modules.Paths.{homes}
use Rattle.go_load.proofs.homes.homes.Given as goal

abbrev pub invariant-loop-head : goal.invariant-loop-head
invariant-loop-head l = l.list.items ≡ homes l.module_path l.own (take l.head-index l.heads)
