use Rattle.std.proofs.Common.{◌≡◌, ◌++◌, drop, map}
use Rattle.go_module.specs.Modules.Module.{package_view}
use Rattle.go_load.specs.Packages.Assembly.{files_left, packages_with}
use Rattle.go_load.proofs.assemble.packages_with.Given as goal

-- the packages so far and those of what is left are those of all
abbrev pub invariant-loop-number : goal.invariant-loop-number
invariant-loop-number l = map package_view l.list.items ++ packages_with (files_left l.slots) l.heads l.packages l.places (drop l.number-index l.numbers) ≡ packages_with (files_left l.fn.slots) l.heads l.packages l.places l.numbers
